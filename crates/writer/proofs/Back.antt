-- The second round trip: writing what was read gives the same bytes.
use Prim.Native.Nat.{ℕ}
use mathlib.Core.Path.{◌≡◌, ap, ◌∙◌}
use mathlib.Core.List.{List}
use Rattle.block.specs.declared.Task.{Task}
use Rattle.block.specs.Format.{block_size}
use Rattle.block.specs.Block.{holds, reading_of, list_of, wrote, write_of}
use Rattle.block.specs.Legal.{Bytes}
use Rattle.block.proofs.Reading.{reading_held, reading_legal, block_side}
use Rattle.layout.proofs.Lists.{legal_written}
use Rattle.layout.proofs.Again.{reading_small, reading_again}

pub write_read : (side mode : ℕ) (b : List ℕ) (xs : List Task) → Bytes b → reading_of side b ≡ holds mode xs → write_of side mode (list_of xs) block_size ≡ wrote b
write_read side mode b xs bytes e =
    legal_written side xs (block_side side b (reading_held side b mode xs e).passed) (reading_legal side mode b xs e) (reading_small side mode b xs bytes e) mode
    ∙ ap wrote (reading_again side mode b xs bytes e)
