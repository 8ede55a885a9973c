-- The promise: what an answer 0 of the analysis says about every run. Definitions only.
use Rattle.std.specs.Prelude.{ℕ, ◌+◌, ◌*◌, ◌<◌, ◌≡◌, List, [], ◌++◌, length, get_or}
use Rattle.block.specs.declared.Task.{Task}
use Rattle.block.specs.Checks.{no_task}
use Rattle.block.specs.Block.{Reading, holds, spoilt, reading_of}
use Rattle.block.specs.declared.Kind.{Kind}
use Rattle.block.specs.declared.Kind.TheVariants.{Completed, Aborted, New}
use Rattle.window.specs.Order.{kind_of, rank}
use Rattle.rows.specs.Rows.{row_size}
use Rattle.pair.specs.Analysis.{analyse_of}
use Rattle.run.specs.Run.{Run, Job, service, Ended, IsRun}

-- ---- the tasks and the numbers

-- the tasks of two blocks that read, old ones in block order and then new ones
abbrev pub held_in : Reading → List Task
held_in (holds mode xs) = xs
held_in (spoilt a) = []

abbrev pub tasks_held : List ℕ → List ℕ → List Task
tasks_held old_block new_block = held_in (reading_of 0 old_block) ++ held_in (reading_of 1 new_block)

-- how many, and which stands at place i
abbrev pub count : List Task → ℕ
count tasks = length tasks

abbrev pub task : List Task → ℕ → Task
task tasks i = get_or tasks i no_task

-- where the first number of row i stands in a report, and the number there
abbrev pub first_place : ℕ → ℕ
first_place i = row_size * i

abbrev pub first_number : List ℕ → ℕ → ℕ
first_number report i = get_or report (first_place i) 0

-- ---- what is said of a job

-- the request did not cut it off: of an aborted task's jobs, those that had ended by then
abbrev pub NotCut : Kind → Run → ℕ → ℕ → Type 0
NotCut Completed R i r = Unit {0}
NotCut Aborted R i r = Ended R i r R.request
NotCut New R i r = Unit {0}

-- it ends exactly t ticks after its release, and not a tick sooner
pub record Takes (R : Run) (i r t : ℕ) : Type 0 where
  pub ends : Ended R i r (r + t)
  pub not_sooner : (u : ℕ) → u < t → service R i r (r + u) < R.need i r

-- ---- the promise, for n tasks and a number for each

-- the first half: in every run each job that is not cut off ends within its task's number
abbrev pub AllEnd : (n : ℕ) → (ℕ → Task) → (ℕ → ℕ) → Type 0
AllEnd n tk number = (R : Run) → IsRun n tk R → (i r : ℕ) → i < n → Job R i r → NotCut (kind_of (tk i)) R i r → Ended R i r (r + number i)

-- no aborted task is above task i
abbrev pub NoAbortedAbove : (n : ℕ) → (ℕ → Task) → ℕ → Type 0
NoAbortedAbove n tk i = (j : ℕ) → j < n → rank (tk j) < rank (tk i) → kind_of (tk j) ≡ Aborted → ⊥

-- a run, and in it a job of task i that takes exactly t ticks
pub record Reached (n : ℕ) (tk : ℕ → Task) (i t : ℕ) : Type 0 where
  pub run : Run
  pub is_run : IsRun n tk run
  pub release : ℕ
  pub is_job : Job run i release
  pub takes : Takes run i release t

-- both halves; the second: for a completed task with no aborted task above it the number is reached
pub record Bounds (n : ℕ) (tk : ℕ → Task) (number : ℕ → ℕ) : Type 0 where
  pub within : AllEnd n tk number
  pub exact : (i : ℕ) → i < n → kind_of (tk i) ≡ Completed → NoAbortedAbove n tk i → Reached n tk i (number i)

-- whenever the analysis answers 0, the first numbers of the rows that its report then holds bound the runs of the tasks in the blocks
abbrev pub Promise : List ℕ → List ℕ → List ℕ → Type 0
Promise old_block new_block report =
    (analyse_of old_block new_block report).reply.code ≡ 0
    → Bounds (count (tasks_held old_block new_block)) (task (tasks_held old_block new_block)) (first_number (analyse_of old_block new_block report).report)
