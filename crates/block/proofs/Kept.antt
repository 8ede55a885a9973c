-- A refusal leaves the lent memory as it was; done, the reader keeps the rest of the list.
use Prim.Native.Nat.{ℕ, ◌*◌}
use mathlib.Core.Path.{◌≡◌, refl}
use mathlib.Core.Bool.{Bool, true, false}
use mathlib.Core.List.{List}
use lib.Dec.{ltb}
use lib.ListN.{length}
use Rattle.block.specs.declared.Task.{Task}
use Rattle.block.specs.Format.{list_size}
use Rattle.block.specs.Block.{Reading, holds, spoilt, filled, reading_of, read_of, Written, wrote, refused, write_of, reply_of, left_of}

-- the reader: every number of the lent list
pub read_kept : (side : ℕ) (b l : List ℕ) → ((read_of side b l).reply.code ≡ 0 → ⊥) → (read_of side b l).list ≡ l
unfolding read_of
read_kept side b l = go (reading_of side b)
  where
    held : (t : Bool) (mode : ℕ) (xs : List Task) → ltb (length l) (list_size * length xs) ≡ t
        → ((filled side (holds mode xs) l).reply.code ≡ 0 → ⊥) → (filled side (holds mode xs) l).list ≡ l
    held true mode xs e n = rw e
    held false mode xs e n = absurd (n (rw e))

    go : (r : Reading) → ((filled side r l).reply.code ≡ 0 → ⊥) → (filled side r l).list ≡ l
    go (spoilt a) n = refl
    go (holds mode xs) n = held (ltb (length l) (list_size * length xs)) mode xs refl n

-- the writer: every byte of the lent block
pub write_kept : (side mode : ℕ) (l b : List ℕ) → ((reply_of (write_of side mode l (length b))).code ≡ 0 → ⊥) → left_of (write_of side mode l (length b)) b ≡ b
write_kept side mode l b = go (write_of side mode l (length b))
  where
    go : (w : Written) → ((reply_of w).code ≡ 0 → ⊥) → left_of w b ≡ b
    go (wrote c) n = absurd (n refl)
    go (refused a) n = refl
