-- The tasks of two tables: how many they are, their rolls, and the rows that these tell.
use Prim.Native.Nat.{ℕ, ◌+◌}
use mathlib.Core.Path.{◌≡◌, ◌∙◌}
use mathlib.Core.List.{List, ◌++◌, map}
use lib.ListN.{length, get_or, take}
use lib.Seq.{take_at}
use Rattle.std.proofs.lemmas.List.{length-map}
use Rattle.block.specs.declared.Task.{Task}
use Rattle.block.specs.declared.Table.{Table}
use Rattle.block.specs.Answers.{Verdict}
use Rattle.block.specs.Checks.{no_task}
use Rattle.block.specs.Block.{listed}
use Rattle.block.specs.Legal.{Legal, Tabled}
use Rattle.block.proofs.Tables.{listed_length}
use Rattle.above.specs.declared.Rolled.{Rolled}
use Rattle.above.specs.Roll.{rolled}
use Rattle.row.specs.Row.{row_of}
use Rattle.judge.proofs.From.{row_is}
use Rattle.rows.specs.Fill.{row_by_rolls, Filled}
use Rattle.rows.proofs.Laid.{filled_same}

module _ (old new : Table) (p : Tabled 0 old) (q : Tabled 1 new) where
  pub listed_both : length (listed old) + length (listed new) ≡ old.count + new.count
  listed_both = rw (listed_length 0 old p, listed_length 1 new q)

-- the roll of a table
pub table_roll : (side : ℕ) (t : Table) → Tabled side t → (l rest : List Rolled) → l ≡ map rolled (listed t) ++ rest → take t.count l ≡ map rolled (listed t)
table_roll side t h l rest e = rw e (take_at (map rolled (listed t)) rest t.count (length-map (listed t) rolled ∙ listed_length side t h))

-- rows from the rolls of both sides are the rows
module _ (olds news : List Task) (legal : Legal 0 olds) (o w : List Rolled) (told : o ≡ map rolled olds) (tells : w ≡ map rolled news) where
  pub filled_told : (side : ℕ) (xs : List Task) → Legal side xs → (numbers : List ℕ) (r : Verdict) → Filled side (row_by_rolls o w) xs numbers r → Filled side (row_of olds news) xs numbers r
  filled_told side xs h numbers r =
      filled_same side (row_by_rolls o w) xs (row_of olds news) (λ j l. rw (told, tells) (row_is (get_or xs j no_task) (h.rules j l).execution olds news legal)) numbers r
