-- The rows of a pair in order, and which late task is named. Definitions only.
use Rattle.std.specs.Prelude.{ℕ, ◌+◌, ◌*◌, length, get_or, drop, Ok, Err}
use mathlib.Core.List.{List, [], ◌∷◌, ◌++◌, flat_map}
use Rattle.base.specs.Lists.{up_to}
use Rattle.block.specs.declared.Task.{Task}
use Rattle.block.specs.Answers.{Verdict, answer}
use Rattle.block.specs.Format.{most_tasks}
use Rattle.block.specs.Checks.{no_task}
use Rattle.row.specs.Row.{Judged, row_of}

-- three numbers a row
abbrev pub row_size : ℕ
row_size = 3

-- room for the rows of any pair
abbrev pub report_room : ℕ
report_room = row_size * (most_tasks + most_tasks)

abbrev pub row_numbers : Judged → List ℕ
row_numbers (Ok r) = r.first ∷ r.second ∷ r.third ∷ []
row_numbers (Err d) = 0 ∷ 0 ∷ 0 ∷ []

-- old records in block order, then new ones
abbrev pub rows_of : List Task → List Task → List ℕ
rows_of olds news = flat_map (λ i. row_numbers (row_of olds news i)) (olds ++ news)

-- a late task is refused: code, side, record, and the detail of its lateness
abbrev pub late_check : ℕ → ℕ → ℕ → Judged → Verdict
late_check code side k (Ok r) = Ok tt
late_check code side k (Err d) = Err (answer code side k d)

-- old tasks in time, then new ones
abbrev pub late_checks : List Task → List Task → List Verdict
late_checks olds news =
    up_to (λ k. late_check 9 0 k (row_of olds news (get_or olds k no_task))) (length olds)
    ++ up_to (λ k. late_check 10 1 k (row_of olds news (get_or news k no_task))) (length news)

-- what a report then holds: the rows in front where every task is in time, else what it held
abbrev pub reported : Verdict → List ℕ → List ℕ → List ℕ
reported (Ok u) rows report = rows ++ drop (length rows) report
reported (Err a) rows report = report
