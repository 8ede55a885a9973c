-- What the phase loop keeps between phases that go by backwards. Definitions only.
use Rattle.std.specs.Prelude.{ℕ, ◌+◌, ◌≤◌, ◌<◌, ◌≡◌, Option, None, Some, Ok}
use Rattle.window.specs.declared.Worst.{Worst}
use Rattle.window.specs.declared.Back.{Back}
use Rattle.window.specs.Worst.{sweep}
use Rattle.window.specs.Phases.{window_at}

-- r is the largest window that changes nothing at an earlier phase
pub record Bar (b : Worst) (r : ℕ) : Type 0 where
  pub by : r ≤ b.window
  pub near : b.window ≤ r + 1
  pub later : 1 < b.phase → r < b.window
  pub first : b.phase ≤ 1 → b.window ≤ r

module _ (f : ℕ → ℕ → ℕ) (limit : ℕ) where
  -- phase y closes by v, and that changes nothing of b
  pub record Fine (b : Worst) (y : ℕ) : Type 0 where
    pub v : ℕ
    pub some : 1 ≤ v
    pub shuts : f y v ≤ v
    pub by : v ≤ b.window
    pub less : y < b.phase → v < b.window

  -- phases from x on are done: s holds the worst of them and of phase 1, and tells of the last one that was searched
  pub record Held (x : ℕ) (s : Back) : Type 0 where
    pub shown : 1 ≤ s.best.phase
    pub inside : s.best.phase ≤ limit
    pub gives : window_at f limit s.best.phase ≡ Some s.best.window
    pub one : Fine s.best 1
    pub early : (u : ℕ) → u < x → u < f u u
    pub past : x ≤ s.last.phase
    pub based : s.last.base ≡ f s.last.phase s.last.phase
    pub under : (u : ℕ) → s.last.phase ≤ u → u < s.last.reach → u < f s.last.phase u
    pub shuts : f s.last.phase s.last.reach ≤ s.last.reach
    pub far : s.last.phase ≤ s.last.reach
    pub by : s.last.reach ≤ s.best.window
    pub fits : s.best.window ≤ limit

  -- phase x was seen from s, and r is the state after it
  pub record Seen (x : ℕ) (s r : Back) : Type 0 where
    pub held : Held x r
    pub fine : Fine r.best x
    pub keeps : (y : ℕ) → x < y → Fine s.best y → Fine r.best y

  unfoldable pub Turned : ℕ → Back → Option Back → Type 0
  Turned x s (Some r) = Seen x s r
  Turned x s None = Unit {0}

-- what was found is the worst of all phases
unfoldable pub Tells : (ℕ → Option ℕ) → ℕ → Option Worst → Type 0
Tells g limit (Some w) = sweep g limit ≡ Ok w
Tells g limit None = Unit {0}
