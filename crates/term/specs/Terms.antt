-- What tasks ask for, as jobs a period apart, and the demand that comes of it. Definitions only.
use Rattle.std.specs.Prelude.{ℕ, ◌+◌, ◌%◌, ◌-◌, ◌≤◌, ◌<◌, min, max, ◌≡◌, cond, List, [], ◌∷◌, length, All, ltb}
use Rattle.base.specs.Sums.{sum_of}
use Rattle.base.specs.Numbers.{jobs_in, cut_in, recip_of}
use Rattle.term.specs.declared.Jobs.{Jobs}
use Rattle.term.specs.declared.Old.{Old}
use Rattle.term.specs.declared.New.{New}

-- jobs whose period may be divided by
pub record Good (j : Jobs) : Type 0 where
  pub some : 1 ≤ j.period
  pub small : j.period < 65536
  pub time : j.execution < 65536
  pub inverse : j.recip ≡ recip_of j.period

-- lists of old and of new tasks, each at most 30 long, whose jobs are good
pub record Ready (o : List Old) (w : List New) : Type 0 where
  pub few_old : length o ≤ 30
  pub few_new : length w ≤ 30
  pub good_old : All (λ e. Good e.jobs) o
  pub good_new : All (λ e. Good e.jobs) w

-- jobs in m ticks, the last one cut off where the task is so
unfoldable pub before : ℕ → Old → ℕ
before m e = cond e.cut (cut_in e.jobs.period e.jobs.execution m) (jobs_in e.jobs.period e.jobs.execution m)

-- jobs u ticks after the request, the first at the offset
unfoldable pub after : ℕ → New → ℕ
after u e = jobs_in e.jobs.period e.jobs.execution (u - e.offset)

abbrev pub old_sum : List Old → ℕ → ℕ
old_sum o m = sum_of (before m) o

abbrev pub new_sum : List New → ℕ → ℕ
new_sum w u = sum_of (after u) w

-- C, old tasks before the request at x, new tasks after it
unfoldable pub flat_demand : ℕ → List Old → List New → ℕ → ℕ → ℕ
flat_demand C o w x t = C + old_sum o (min t x) + new_sum w (t - x)

-- how far into a period a task grows: one tick of whole jobs, all of the time of a cut-off one
unfoldable pub grows_by : Old → ℕ
grows_by e = cond e.cut e.jobs.execution 1

-- the next phase after x at which a task grows: the next tick, or the first of its next period
unfoldable pub next_of : ℕ → Old → ℕ
next_of x e = cond (ltb (x % e.jobs.period) (grows_by e)) (x + 1) (x - x % e.jobs.period + e.jobs.period + 1)

-- the next at which one of the tasks grows, at most limit + 1
unfoldable pub next_phase : List Old → ℕ → ℕ → ℕ
next_phase [] x limit = limit + 1
next_phase (e ∷ o) x limit = min (next_of x e) (next_phase o x limit)

-- the last phase up to m + 1 at which a task grows: m + 1 itself, or where it stopped in its period
unfoldable pub prev_of : ℕ → Old → ℕ
prev_of m e = cond (ltb (m % e.jobs.period) (grows_by e)) (m + 1) (m - m % e.jobs.period + grows_by e)

-- the last at which one of the tasks grows, at least 1
unfoldable pub prev_phase : List Old → ℕ → ℕ
prev_phase [] m = 1
prev_phase (e ∷ o) m = max (prev_of m e) (prev_phase o m)
