-- A window that closes before the request with jobs cut off has one in it that closes with whole jobs: the window layer's law, over places.
use Prim.Native.Nat.{ℕ, suc, ◌+◌, ◌≤◌, ◌<◌}
use native.Mathlib.Nat.{le_refl, min-eq_left}
use native.Mathlib.Omega.{arith}
use Rattle.block.specs.declared.Task.{Task}
use Rattle.block.specs.declared.Kind.{Kind}
use Rattle.block.specs.declared.Kind.TheVariants.{Completed, Aborted, New}
use Rattle.window.specs.Order.{kind_of, above}
use Rattle.window.specs.Demand.{old_term}
use Rattle.window.proofs.Steady.{Closed, full, old_rises, old_grows, cond_le, cond_lt}
use Rattle.run.proofs.Picks.{pick}
use Rattle.run.proofs.Tasks.{Sound}
use Rattle.run.proofs.Analysis.Demands.{over_above, steady_old, at_phase, above_le}

before_request : (k : Kind) (a : Task) (x t : ℕ) → t ≤ x → old_term k a t ≤ at_phase k a x t
before_request Completed a x t h = rw (min-eq_left h) (le_refl _)
before_request Aborted a x t h = rw (min-eq_left h) (le_refl _)
before_request New a x t h = omega arith

grows : (k : Kind) (a : Task) (t : ℕ) → 0 < a.period → old_term k a (suc t) < steady_old k a (suc t) → old_term k a t < old_term k a (suc t)
grows Completed a t p h = old_grows 0 a t (omega arith) p h
grows Aborted a t p h = old_grows 1 a t (omega arith) p h
grows New a t p h = absurd (omega arith)

pub to_whole : (n : ℕ) (tk : ℕ → Task) → Sound n tk → (i K x : ℕ) → 0 < K → (t : ℕ) → t ≤ x → 0 < t
    → K + over_above n tk i (λ j. at_phase (kind_of (tk j)) (tk j) x t) ≤ t
    → Closed (λ u. K + over_above n tk i (λ j. steady_old (kind_of (tk j)) (tk j) u)) t
unfolding over_above
to_whole n tk G i K x l t h p c =
    full n K
    (λ u j. pick (above (tk i) (tk j)) (steady_old (kind_of (tk j)) (tk j) u))
    (λ u j. pick (above (tk i) (tk j)) (old_term (kind_of (tk j)) (tk j) u)) l
    (λ u j m. cond_le (above (tk i) (tk j)) _ _ (old_rises (kind_of (tk j)) (tk j) u (suc u) (omega arith)))
    (λ u j m. cond_lt (above (tk i) (tk j)) _ _ _ (grows (kind_of (tk j)) (tk j) u (G.period j m)))
    t p
    (omega (arith, above_le n tk i (λ j. old_term (kind_of (tk j)) (tk j) t) (λ j. at_phase (kind_of (tk j)) (tk j) x t) (λ j m r. before_request (kind_of (tk j)) (tk j) x t h)))
