-- The side of a task by its kind's number.
use Prim.Native.Nat.{ℕ, zero, suc, ◌≤◌, ◌<◌}
use mathlib.Core.Path.{◌≡◌, refl}
use native.Mathlib.Omega.{arith}
use Rattle.window.specs.Order.{kind_at, side_of}

pub side_old : (k : ℕ) → k < 2 → side_of (kind_at k) ≡ 0
side_old zero h = refl
side_old (suc zero) h = refl
side_old (suc (suc k)) h = absurd (omega arith)

pub side_new : (k : ℕ) → 2 ≤ k → side_of (kind_at k) ≡ 1
side_new zero h = absurd (omega arith)
side_new (suc zero) h = absurd (omega arith)
side_new (suc (suc k)) h = refl
