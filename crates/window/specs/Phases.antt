-- What the phase loop keeps between phases. Definitions only.
use Rattle.std.specs.Prelude.{ℕ, ◌+◌, ◌-◌, ◌≤◌, ◌<◌, min, max, ◌⊎◌, ◌≡◌, Option, None, Some, Ok}
use Rattle.base.specs.Search.{window_of}
use Rattle.term.specs.declared.Demand.{Demand}
use Rattle.term.specs.Terms.{flat_demand}
use Rattle.window.specs.declared.Course.{Course}
use Rattle.window.specs.declared.Searched.{Searched}
use Rattle.window.specs.declared.State.{State}
use Rattle.window.specs.Worst.{next_of, sweep}

-- what is asked for by t, the request coming at x
abbrev pub asks : Demand → ℕ → ℕ → ℕ
asks d = flat_demand d.own d.old.now d.new.now

-- the window of a family of demands at a phase
unfoldable pub window_at : (ℕ → ℕ → ℕ) → ℕ → ℕ → Option ℕ
window_at f limit x = window_of (f x) limit

-- what all phases up to the limit give, and the window at the last one
unfoldable pub course_of : (ℕ → Option ℕ) → ℕ → Course
course_of g limit = record { swept = sweep g limit; last = g limit }

-- a search at x, where the demand at the request is a, starts at r: where the state says, or as far behind x as the last window
abbrev pub Begun : State → ℕ → ℕ → ℕ → ℕ → Type 0
Begun s x a limit r =
    (r ≡ s.start)
    ⊎ ((s.last.phase < s.last.reach) × (x ≤ s.last.base) × (s.last.base + (x - s.last.phase) ≤ a) × (r ≡ max s.start (min (s.last.reach + (x - s.last.phase)) limit)))

module _ (f : ℕ → ℕ → ℕ) (c limit : ℕ) where
  -- what is told of the last phase that was searched: its demand at the request, and that nothing below its window closes
  pub record Told (s : Searched) : Type 0 where
    pub based : 1 ≤ s.base → s.base ≡ f s.phase s.phase
    pub under : (u : ℕ) → u < s.reach → u < f s.phase u
    pub fits : s.reach ≤ limit

  -- phases below x are done: s holds the worst of them, and no t below its start closes at x or later
  pub record Kept (x : ℕ) (s : State) : Type 0 where
    pub some : 1 ≤ x
    pub within : x ≤ limit + 1
    pub phases : sweep (window_at f limit) (x - 1) ≡ Ok s.best
    pub fits : s.best.window ≤ limit
    pub first : 1 ≤ s.start
    pub low : s.start ≤ max c x
    pub unmet : (y u : ℕ) → x ≤ y → u < s.start → u < f y u
    pub past : s.last.phase < x
    pub told : Told s.last

  -- phase x was seen from s, and r is the state after it; the demand at x closes at r's shut
  pub record Seen (x : ℕ) (s r : State) : Type 0 where
    pub phases : next_of (Ok s.best) (window_at f limit x) x ≡ Ok r.best
    pub fits : r.best.window ≤ limit
    pub first : 1 ≤ r.start
    pub low : r.start ≤ max c (x + 1)
    pub unmet : (y u : ℕ) → x ≤ y → u < r.start → u < f y u
    pub shuts : f x r.shut ≤ r.shut
    pub some : 1 ≤ r.shut
    pub by : r.shut ≤ r.best.window
    pub past : r.last.phase ≤ x
    pub told : Told r.last

  unfoldable pub Stepped : ℕ → State → Option State → Type 0
  Stepped x s (Some r) = Seen x s r
  Stepped x s None = window_at f limit x ≡ None
