-- The first number at which a test holds, and the least t at which a demand closes. Definitions only.
use Rattle.std.specs.Prelude.{ℕ, zero, suc, ◌≤◌, ◌<◌, Bool, cond, leb, Option, None, Some}

-- the first of the n numbers s, s + 1, .. at which p holds
unfoldable pub first_where : (ℕ → Bool) → ℕ → ℕ → Option ℕ
first_where p zero s = None
first_where p (suc n) s = cond (p s) (Some s) (first_where p n (suc s))

-- a demand closes at t: it is at most t there
abbrev pub closes : (ℕ → ℕ) → ℕ → Bool
closes demand t = leb (demand t) t

-- a window: the least whole t from 1 up to the limit at which the demand closes, or none
unfoldable pub window_of : (ℕ → ℕ) → ℕ → Option ℕ
window_of demand limit = first_where (closes demand) limit 1

-- t is on the way up to the least window: it is in time, the demand has not fallen below it, and nothing below it closes
pub record Climbs (f : ℕ → ℕ) (limit t : ℕ) : Type 0 where
  pub first : 1 ≤ t
  pub within : t ≤ limit
  pub up : t ≤ f t
  pub unmet : (u : ℕ) → u < t → u < f u
