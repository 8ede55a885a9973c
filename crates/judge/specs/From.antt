-- The row of a task from the rolls of both tables, and the terms that it leaves in the room that is lent. Definitions only, for the contracts of internal functions.
use Rattle.std.specs.Prelude.{◌+◌, ◌≡◌, List}
use Rattle.block.specs.declared.Task.{Task}
use Rattle.term.specs.declared.Old.{Old}
use Rattle.term.specs.declared.New.{New}
use Rattle.term.specs.Terms.{flat_demand}
use Rattle.block.specs.declared.Kind.{Kind}
use Rattle.block.specs.declared.Kind.TheVariants.{Completed, Aborted, New as Entering}
use Rattle.window.specs.Order.{rank}
use Rattle.window.specs.Demand.{own_time}
use Rattle.window.specs.Worst.{sweep}
use Rattle.window.specs.Phases.{window_at}
use Rattle.above.specs.declared.Rolled.{Rolled}
use Rattle.above.specs.Roll.{old_of, whole_of, new_of, terms_above, gathered, left_above}
use Rattle.row.specs.Flat.{flat_steady, flat_request}
use Rattle.row.specs.Row.{Judged, completed_row, aborted_row, new_row}
use Rattle.judge.specs.declared.Room.{Room}

-- before the request, gathered from the tasks of i's own mode: for a completed one with what is cut off, else in whole jobs
abbrev pub own_terms : Kind → List Rolled → List Rolled → Task → List Old → List Old
own_terms Completed o w i l = gathered old_of (rank i) o l
own_terms Aborted o w i l = gathered whole_of (rank i) o l
own_terms Entering o w i l = gathered whole_of (rank i) w l

-- after it, gathered from the new tasks
abbrev pub new_terms : Kind → List Rolled → Task → List New → List New
new_terms Completed w i l = gathered new_of (rank i) w l
new_terms Aborted w i l = l
new_terms Entering w i l = gathered new_of (rank i) w l

-- the row that those above give
abbrev pub row_from : Kind → List Rolled → List Rolled → Task → Judged
row_from Completed o w i =
    completed_row (sweep (window_at (flat_demand (own_time i) (terms_above old_of (rank i) o) (terms_above new_of (rank i) w)) i.deadline) i.deadline) (flat_steady (own_time i) (terms_above old_of (rank i) o) i.deadline)
row_from Aborted o w i = aborted_row (flat_steady (own_time i) (terms_above whole_of (rank i) o) i.deadline)
row_from Entering o w i =
    new_row i (flat_steady (own_time i) (terms_above whole_of (rank i) w) i.deadline) (flat_request (own_time i + left_above (rank i) o) (terms_above new_of (rank i) w) (i.offset + i.deadline))

-- what is left in the room, and the row
abbrev pub Rowed : Kind → List Rolled → List Rolled → Task → Room → Room → Judged → Type 0
Rowed kind o w i l m r = (m.before ≡ own_terms kind o w i l.before) × (m.after ≡ new_terms kind w i l.after) × (r ≡ row_from kind o w i)
