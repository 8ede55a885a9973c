-- The row of a task, or its lateness. Definitions only.
use Rattle.std.specs.Prelude.{ℕ, ◌+◌, ◌-◌, max, List, Option, None, Some, Result, Ok, Err}
use Rattle.base.specs.Search.{window_of}
use Rattle.block.specs.declared.Task.{Task}
use Rattle.window.specs.declared.Worst.{Worst}
use Rattle.block.specs.declared.Kind.{Kind}
use Rattle.block.specs.declared.Kind.TheVariants.{Completed, Aborted, New}
use Rattle.window.specs.Order.{kind_of}
use Rattle.window.specs.Demand.{steady_demand, phase_demand, request_demand}
use Rattle.window.specs.Worst.{sweep}
use Rattle.row.specs.declared.Row.{Row}

-- a task's row, or the detail of its lateness
abbrev pub Judged : Type 0
Judged = Result Row ℕ

abbrev pub row : ℕ → ℕ → ℕ → Row
row a b c = record { first = a; second = b; third = c }

-- the window in time, which a completed task that is not late has
abbrev pub or_zero : Option ℕ → ℕ
or_zero (Some t) = t
or_zero None = 0

abbrev pub steady_window : List Task → Task → Option ℕ
steady_window own i = window_of (steady_demand own i) i.deadline

abbrev pub phase_window : List Task → List Task → Task → ℕ → Option ℕ
phase_window olds news i x = window_of (phase_demand olds news i x) i.deadline

abbrev pub request_window : List Task → List Task → Task → Option ℕ
request_window olds news i = window_of (request_demand olds news i) (i.offset + i.deadline)

-- completed: worst, its smallest phase, steady; late with the smallest late phase
abbrev pub completed_row : Result Worst ℕ → Option ℕ → Judged
completed_row (Ok s) steady = Ok (row s.window s.phase (or_zero steady))
completed_row (Err x) steady = Err x

-- aborted: steady, 0, steady
abbrev pub aborted_row : Option ℕ → Judged
aborted_row (Some s) = Ok (row s 0 s)
aborted_row None = Err 0

-- new: the larger of steady and w - Y, w, steady; late in the steady window 0, from the request 1
abbrev pub new_row : Task → Option ℕ → Option ℕ → Judged
new_row i None w = Err 0
new_row i (Some s) None = Err 1
new_row i (Some s) (Some w) = Ok (row (max s (w - i.offset)) w s)

abbrev pub row_by : Kind → List Task → List Task → Task → Judged
row_by Completed olds news i = completed_row (sweep (phase_window olds news i) i.deadline) (steady_window olds i)
row_by Aborted olds news i = aborted_row (steady_window olds i)
row_by New olds news i = new_row i (steady_window news i) (request_window olds news i)

unfoldable pub row_of : List Task → List Task → Task → Judged
row_of olds news i = row_by (kind_of i) olds news i
