-- Who goes first, by document 01: a task, another one, and whether the other is above it. Definitions only.
use Rattle.std.specs.Prelude.{ℕ, Bool, true, false, List, [], ◌∷◌}
use Rattle.block.specs.declared.Task.{Task}
use Rattle.block.specs.Record.{task_by}
use Rattle.window.specs.Order.{above}

pub record Case : Type 0 where
  pub task : Task
  pub other : Task
  pub higher : Bool

-- the task, and the other one, by kind and priority
abbrev pub to : ℕ → ℕ → ℕ → ℕ → Bool → Case
to k p j q b = record { task = task_by k p 1 10 10 1 0; other = task_by j q 2 10 10 1 0; higher = b }

abbrev pub found : Case → Bool
found c = above c.task c.other

abbrev pub expected : Case → Bool
expected c = c.higher

unfoldable pub cases : List Case
cases =
    -- a lower number is higher, on one side and across
    to 0 2 0 1 true ∷ to 0 1 0 2 false ∷ to 0 2 1 1 true ∷ to 1 1 0 2 false ∷ to 2 2 2 1 true ∷ to 2 1 2 2 false
    ∷ to 0 2 2 1 true ∷ to 1 2 2 1 true ∷ to 2 2 0 1 true ∷ to 2 2 1 1 true ∷ to 2 1 0 2 false ∷ to 2 1 1 2 false
    -- at equal numbers an old task is higher than a new one
    ∷ to 2 5 0 5 true ∷ to 2 5 1 5 true ∷ to 0 5 2 5 false ∷ to 1 5 2 5 false
    -- no task is above itself
    ∷ to 0 5 0 5 false ∷ to 1 5 1 5 false ∷ to 2 5 2 5 false
    ∷ []
