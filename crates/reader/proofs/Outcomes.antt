-- The reader's three ways out.
use Prim.Native.Nat.{ℕ, ◌*◌, ◌≤◌, ◌<◌}
use mathlib.Core.Path.{◌≡◌}
use mathlib.Core.List.{List, ◌++◌}
use lib.ListN.{length, drop}
use borrow.Author.Tests.{lt-ltb, le-ltb}
use Rattle.block.proofs.Reading.{tasks_length}
use Rattle.block.specs.declared.Answer.{Answer}
use Rattle.std.specs.Prelude.{Ok, Err}
use Rattle.block.specs.Format.{list_size}
use Rattle.block.specs.Answers.{answer}
use Rattle.block.specs.Block.{tasks_in, count_byte, mode_number, block_verdict, reading_of, list_of, outcome, read_of}

module _ (side : ℕ) (b l : List ℕ) where
  pub read_refused : (a : Answer) → block_verdict side b ≡ Err a → read_of side b l ≡ outcome a l
  unfolding read_of reading_of
  read_refused a e = rw e

  pub read_short : block_verdict side b ≡ Ok tt → length l < list_size * count_byte b → read_of side b l ≡ outcome (answer 8 2 0 0) l
  unfolding read_of reading_of
  read_short e h = rw (e, tasks_length b (count_byte b), lt-ltb _ _ h)

  pub read_done : block_verdict side b ≡ Ok tt → list_size * count_byte b ≤ length l
      → read_of side b l ≡ outcome (answer 0 side (count_byte b) (mode_number b)) (list_of (tasks_in b (count_byte b)) ++ drop (list_size * count_byte b) l)
  unfolding read_of reading_of
  read_done e h = rw (e, tasks_length b (count_byte b), le-ltb _ _ h)

pub ruleset outcomes = (read_refused, read_short, read_done)
