-- What the tasks of a block that reads keep, in words that the layers above use. Definitions only.
use Rattle.std.specs.Prelude.{ℕ, ◌≤◌, ◌<◌, ◌≡◌, List, length, get_or}
use Rattle.block.specs.declared.Task.{Task}
use Rattle.block.specs.declared.Table.{Table}
use Rattle.block.specs.Format.{most_tasks}
use Rattle.block.specs.Checks.{no_task}
use Rattle.block.specs.Block.{listed}

-- the rules of one task, by side
pub record Rules (side : ℕ) (x : Task) : Type 0 where
  pub old : side ≡ 0 → x.kind < 2
  pub new : side ≡ 1 → x.kind ≡ 2
  pub period : 1 ≤ x.period
  pub execution : 1 ≤ x.execution
  pub in_deadline : x.execution ≤ x.deadline
  pub in_period : x.deadline ≤ x.period
  pub offset : side ≡ 0 → x.offset ≡ 0

-- the tasks of one side: each keeps the rules, no two bear the same number or priority
pub record Legal (side : ℕ) (xs : List Task) : Type 0 where
  pub few : length xs ≤ most_tasks
  pub rules : (k : ℕ) → k < length xs → Rules side (get_or xs k no_task)
  pub numbers : (j k : ℕ) → j < k → k < length xs → (get_or xs j no_task).number ≡ (get_or xs k no_task).number → ⊥
  pub priorities : (j k : ℕ) → j < k → k < length xs → (get_or xs j no_task).priority ≡ (get_or xs k no_task).priority → ⊥

-- a table of such tasks
pub record Tabled (side : ℕ) (t : Table) : Type 0 where
  pub places : length t.tasks ≡ most_tasks
  pub few : t.count ≤ most_tasks
  pub legal : Legal side (listed t)

-- each field is as wide as its bytes
pub record Small (x : Task) : Type 0 where
  pub kind : x.kind < 256
  pub priority : x.priority < 256
  pub number : x.number < 65536
  pub period : x.period < 65536
  pub deadline : x.deadline < 65536
  pub execution : x.execution < 65536
  pub offset : x.offset < 65536

abbrev pub AllSmall : List Task → Type 0
AllSmall xs = (k : ℕ) → k < length xs → Small (get_or xs k no_task)

-- every number of a list is a byte
abbrev pub Bytes : List ℕ → Type 0
Bytes b = (i : ℕ) → get_or b i 0 < 256
