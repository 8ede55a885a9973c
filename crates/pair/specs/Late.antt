-- When a task is late, and which late task is named with which detail. Definitions only.
use Rattle.std.specs.Prelude.{ℕ, ◌+◌, ◌≤◌, ◌<◌, ◌≡◌, ◌⊎◌, List, length, get_or}
use Rattle.block.specs.declared.Task.{Task}
use Rattle.block.specs.declared.Answer.{Answer}
use Rattle.block.specs.Answers.{answer, done}
use Rattle.block.specs.Checks.{no_task}
use Rattle.block.specs.declared.Kind.{Kind}
use Rattle.block.specs.declared.Kind.TheVariants.{Completed, Aborted, New}
use Rattle.window.specs.Order.{kind_of}
use Rattle.window.specs.Demand.{steady_demand, phase_demand, request_demand}

-- a demand closes at some whole t from 1 up to the limit; at none
abbrev pub Closing : (ℕ → ℕ) → ℕ → Type 0
Closing demand limit = (t : ℕ) × (1 ≤ t) × (t ≤ limit) × (demand t ≤ t)

abbrev pub Unclosed : (ℕ → ℕ) → ℕ → Type 0
Unclosed demand limit = (t : ℕ) → 1 ≤ t → t ≤ limit → t < demand t

-- completed: at some phase no t up to D closes; aborted: steady; new: steady by D, or from the request by Y + D
abbrev pub LateKind : Kind → List Task → List Task → Task → Type 0
LateKind Completed olds news i = (x : ℕ) × (1 ≤ x) × (x ≤ i.deadline) × Unclosed (phase_demand olds news i x) i.deadline
LateKind Aborted olds news i = Unclosed (steady_demand olds i) i.deadline
LateKind New olds news i = Unclosed (steady_demand news i) i.deadline ⊎ Unclosed (request_demand olds news i) (i.offset + i.deadline)

abbrev pub IsLate : List Task → List Task → Task → Type 0
IsLate olds news i = LateKind (kind_of i) olds news i

-- with its detail: the smallest late phase; 0 for aborted; 0 steady, 1 from the request where steady closes
abbrev pub DetailKind : Kind → List Task → List Task → Task → ℕ → Type 0
DetailKind Completed olds news i x =
    (1 ≤ x) × (x ≤ i.deadline) × Unclosed (phase_demand olds news i x) i.deadline
    × ((y : ℕ) → 1 ≤ y → y < x → Closing (phase_demand olds news i y) i.deadline)
DetailKind Aborted olds news i d = (d ≡ 0) × Unclosed (steady_demand olds i) i.deadline
DetailKind New olds news i d =
    ((d ≡ 0) × Unclosed (steady_demand news i) i.deadline)
    ⊎ ((d ≡ 1) × Closing (steady_demand news i) i.deadline × Unclosed (request_demand olds news i) (i.offset + i.deadline))

abbrev pub LateBy : List Task → List Task → Task → ℕ → Type 0
LateBy olds news i d = DetailKind (kind_of i) olds news i d

-- no task of xs is late; some task is; the first late one is at place k, with detail d
abbrev pub InTime : List Task → List Task → List Task → Type 0
InTime olds news xs = (k : ℕ) → k < length xs → IsLate olds news (get_or xs k no_task) → ⊥

abbrev pub SomeLate : List Task → List Task → List Task → Type 0
SomeLate olds news xs = (k : ℕ) × (k < length xs) × IsLate olds news (get_or xs k no_task)

pub record FirstLate (olds news xs : List Task) (k d : ℕ) : Type 0 where
  pub place : k < length xs
  pub late : LateBy olds news (get_or xs k no_task) d
  pub earlier : (j : ℕ) → j < k → IsLate olds news (get_or xs j no_task) → ⊥

-- what a pair with room for its rows is told
pub data Told (olds news : List Task) : Answer → Type 0 where
  in_time : InTime olds news olds → InTime olds news news → Told olds news done
  old_late : (k d : ℕ) → FirstLate olds news olds k d → Told olds news (answer 9 0 k d)
  new_late : (k d : ℕ) → InTime olds news olds → FirstLate olds news news k d → Told olds news (answer 10 1 k d)
