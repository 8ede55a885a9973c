-- Fractions rounded up, reciprocals, and what jobs of C ticks, T ticks apart, ask for in a stretch of time. Definitions only.
use Rattle.std.specs.Prelude.{ℕ, ◌+◌, ◌-◌, ◌*◌, ◌/◌, ◌%◌, min}

-- m / T rounded up, for T of 1 or more
unfoldable pub ceil : ℕ → ℕ → ℕ
ceil m T = (m + (T - 1)) / T

-- ceil(t/T) × C: every job released in t ticks, whole
unfoldable pub jobs_in : ℕ → ℕ → ℕ → ℕ
jobs_in T C t = ceil t T * C

-- floor(m/T) × C + min(C, m mod T): the last job cut off after m ticks
unfoldable pub cut_in : ℕ → ℕ → ℕ → ℕ
cut_in T C m = m / T * C + min C (m % T)

-- 2^40 / p, rounded up: by it the quick code divides
unfoldable pub recip_of : ℕ → ℕ
recip_of p = (1099511627776 + (p - 1)) / p
