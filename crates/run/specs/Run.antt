-- What a run is: a request, releases and a schedule, and the rules that they keep. Definitions only.
-- The tasks are tk 0, .. , tk (n - 1). Ticks are whole and count from 0, where nothing is pending.
use Rattle.std.specs.Prelude.{ℕ, ◌+◌, ◌≤◌, ◌<◌, ◌≡◌, cond, ◌&&◌, eqb}
use Rattle.base.specs.Sums.{sum}
use Rattle.block.specs.declared.Task.{Task}
use Rattle.block.specs.declared.Kind.{Kind}
use Rattle.block.specs.declared.Kind.TheVariants.{Completed, Aborted, New}
use Rattle.window.specs.Order.{kind_of, rank}

-- ---- what there is in a run

-- what a tick serves: nothing, or the job of task i that was released at tick r
pub data Slot : Type 0 where
  idle : Slot
  job : (i r : ℕ) → Slot

-- the tick of the request; the ticks that the job of task i released at tick r needs, 0 where no job is released; what each tick serves.
-- So a task has at most one release a tick, and a tick serves at most one job
pub record Run : Type 0 where
  pub request : ℕ
  pub need : ℕ → ℕ → ℕ
  pub serve : ℕ → Slot

-- task i releases a job at tick r
abbrev pub Job : Run → ℕ → ℕ → Type 0
Job R i r = 0 < R.need i r

-- ---- releases

-- when a job may come, by kind: the request q, the offset y, the tick r. Old ones only before the request, new ones no sooner than their offset after it
abbrev pub MayCome : Kind → ℕ → ℕ → ℕ → Type 0
MayCome Completed q y r = r < q
MayCome Aborted q y r = r < q
MayCome New q y r = q + y ≤ r

pub record Releases (n : ℕ) (tk : ℕ → Task) (R : Run) : Type 0 where
  -- a job needs at most C ticks
  pub fits : (i r : ℕ) → i < n → R.need i r ≤ (tk i).execution
  -- two jobs of a task come a period apart or more
  pub apart : (i r d : ℕ) → i < n → Job R i r → 0 < d → d < (tk i).period → R.need i (r + d) ≡ 0
  -- and each when it may
  pub comes : (i r : ℕ) → i < n → Job R i r → MayCome (kind_of (tk i)) R.request (tk i).offset r

-- ---- service

-- 1 where the slot is the job of task i released at r
abbrev pub runs : Slot → ℕ → ℕ → ℕ
runs idle i r = 0
runs (job j s) i r = cond (eqb j i && eqb s r) 1 0

-- how many ticks before t served that job
unfoldable pub service : Run → ℕ → ℕ → ℕ → ℕ
service R i r t = sum t (λ u. runs (R.serve u) i r)

-- it has had all that it needs when tick t starts
abbrev pub Ended : Run → ℕ → ℕ → ℕ → Type 0
Ended R i r t = service R i r t ≡ R.need i r

-- ---- pending

-- at the request q every aborted job vanishes; no other does
abbrev pub Present : Kind → ℕ → ℕ → Type 0
Present Completed q t = Unit {0}
Present Aborted q t = t < q
Present New q t = Unit {0}

-- the job of task i released at r is pending in tick t: it has come, has not had all that it needs, has not vanished
pub record Pending (tk : ℕ → Task) (R : Run) (i r t : ℕ) : Type 0 where
  pub released : r ≤ t
  pub unfinished : service R i r t < R.need i r
  pub present : Present (kind_of (tk i)) R.request t

-- ---- the schedule

-- what tick t may serve: nothing, or a pending job of one of the tasks
abbrev pub MayServe : (n : ℕ) → (ℕ → Task) → Run → ℕ → Slot → Type 0
MayServe n tk R t idle = Unit {0}
MayServe n tk R t (job i r) = (i < n) × Pending tk R i r t

-- the slot serves task j's job released at s, or one higher; of one task's jobs the earlier is higher.
-- rank has the order of tasks: by priority, at equal priorities old before new
abbrev pub AtOrAbove : (ℕ → Task) → Slot → ℕ → ℕ → Type 0
AtOrAbove tk idle j s = ⊥
AtOrAbove tk (job i r) j s = (rank (tk i) ≤ rank (tk j)) × (rank (tk j) ≤ rank (tk i) → r ≤ s)

-- the highest pending job always runs, and nothing only where nothing is pending
pub record Preemptive (n : ℕ) (tk : ℕ → Task) (R : Run) : Type 0 where
  pub pending : (t : ℕ) → MayServe n tk R t (R.serve t)
  pub highest : (t j s : ℕ) → j < n → Pending tk R j s t → AtOrAbove tk (R.serve t) j s

-- ---- a run of the tasks: any releases and any schedule that keep the rules
pub record IsRun (n : ℕ) (tk : ℕ → Task) (R : Run) : Type 0 where
  pub releases : Releases n tk R
  pub schedule : Preemptive n tk R
