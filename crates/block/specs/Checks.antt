-- The rules of a record by side, and what an earlier record already bears. Definitions only.
use Rattle.std.specs.Prelude.{ℕ, Bool, cond, not, ◌&&◌, ◌||◌, List, [], ◌∷◌, ◌++◌, get_or, take, eqb, ltb}
use Rattle.base.specs.Lists.{part, any}
use Rattle.block.specs.declared.Task.{Task}
use Rattle.block.specs.Format.{record_size, zero_place}
use Rattle.block.specs.Record.{task_by, task_of, task_from, fits, all_zero}
use Rattle.block.specs.Answers.{Verdict, refusal, refuse}

-- an old block (side 0) has kinds 0 and 1, a new one kind 2
unfoldable pub kind_on : ℕ → ℕ → Bool
kind_on side kind = cond (eqb side 0) (ltb kind 2) (eqb kind 2)

-- the rules of a task of its own, each with its code
unfoldable pub task_checks : ℕ → ℕ → Task → List Verdict
task_checks side k x =
    refuse (not (kind_on side x.kind)) (refusal 5 side k)
    ∷ refuse (eqb x.period 0) (refusal 5 side k)
    ∷ refuse (eqb x.execution 0 || ltb x.deadline x.execution) (refusal 5 side k)
    ∷ refuse (ltb x.period x.deadline) (refusal 5 side k)
    ∷ refuse (eqb side 0 && not (eqb x.offset 0)) (refusal 5 side k)
    ∷ []

-- those of a record of a block: its last four bytes are zero too
abbrev pub record_checks : ℕ → ℕ → List ℕ → List Verdict
record_checks side k r = task_checks side k (task_of r) ++ (refuse (not (all_zero (part r zero_place record_size))) (refusal 5 side k) ∷ [])

-- those of an entry of a list: each number fits its field
abbrev pub number_checks : ℕ → ℕ → List ℕ → List Verdict
number_checks side k l = refuse (not (fits l)) (refusal 5 side k) ∷ task_checks side k (task_from l)

-- the task that no record says, for a place past the end of a list
abbrev pub no_task : Task
no_task = task_by 0 0 0 0 0 0 0

-- two tasks bear the same number or the same priority
unfoldable pub alike : Task → Task → Bool
alike x y = eqb x.number y.number || eqb x.priority y.priority

-- some task of the list is alike to x
abbrev pub borne_in : Task → List Task → Bool
borne_in x xs = any (λ y. alike y x) xs

-- a number or priority already borne by an earlier record
abbrev pub double_check : ℕ → List Task → ℕ → Verdict
double_check side xs k = refuse (borne_in (get_or xs k no_task) (take k xs)) (refusal 6 side k)
