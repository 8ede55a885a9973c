-- What a step of writing leaves of a buffer and the place in it. Definitions only.
use Rattle.std.specs.Prelude.{◌≡◌, ℕ, ◌+◌, List, length}
use Rattle.lines.specs.declared.Text.{Text}
use Rattle.lines.specs.Put.{put}

-- s is put from the place on, and the place goes behind it; the buffer is the same one
pub record Puts (old new : Text) (s : List ℕ) : Type 0 where
  pub same_buf : new.buf.ghost_name ≡ old.buf.ghost_name
  pub at_after : new.at ≡ old.at + length s
  pub buf_after : new.buf.now ≡ put old.buf.now old.at s
