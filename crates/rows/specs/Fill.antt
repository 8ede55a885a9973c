-- How the rows of one side of a pair are filled in, one task after the other. Definitions only, for the contracts of internal functions.
use Rattle.std.specs.Prelude.{ℕ, ◌+◌, ◌*◌, ◌≡◌, length, get_or, take, Ok}
use mathlib.Core.List.{List, flat_map}
use Rattle.base.specs.Lists.{up_to}
use Rattle.block.specs.declared.Task.{Task}
use Rattle.block.specs.Answers.{Verdict, first_of}
use Rattle.block.specs.Checks.{no_task}
use Rattle.window.specs.Order.{kind_of}
use Rattle.above.specs.declared.Rolled.{Rolled}
use Rattle.row.specs.Row.{Judged}
use Rattle.judge.specs.From.{row_from}
use Rattle.rows.specs.Rows.{row_size, row_numbers, late_check}

-- the row of a task from the rolls of both tables
abbrev pub row_by_rolls : List Rolled → List Rolled → Task → Judged
row_by_rolls o w i = row_from (kind_of i) o w i

-- of the tasks of a side, by the row of each: whether that at place k is late, and their rows one behind the other
abbrev pub side_check : ℕ → (Task → Judged) → List Task → ℕ → Verdict
side_check side f xs k = late_check (9 + side) side k (f (get_or xs k no_task))

abbrev pub side_rows : (Task → Judged) → List Task → List ℕ
side_rows f xs = flat_map (λ i. row_numbers (f i)) xs

-- the first j tasks are in time, and their rows stand in front of the numbers
pub record Going (side : ℕ) (f : Task → Judged) (xs : List Task) (j : ℕ) (numbers : List ℕ) : Type 0 where
  pub timely : first_of (up_to (side_check side f xs) j) ≡ Ok tt
  pub laid : take (row_size * j) numbers ≡ side_rows f (take j xs)

-- all of them are, or the verdict names the first late one
pub record Filled (side : ℕ) (f : Task → Judged) (xs : List Task) (numbers : List ℕ) (r : Verdict) : Type 0 where
  pub verdict : r ≡ first_of (up_to (side_check side f xs) (length xs))
  pub rows : r ≡ Ok tt → take (row_size * length xs) numbers ≡ side_rows f xs
