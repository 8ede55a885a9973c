-- What one tick of a schedule does to the work that its tasks have left.
use Prim.Native.Nat.{ℕ, suc, ◌+◌, ◌≤◌, ◌<◌}
use mathlib.Core.Path.{◌≡◌, refl, ap}
use mathlib.Core.Logic.{inl, inr}
use native.Mathlib.Nat.{le_refl, eq-zero-or-pos}
use native.Mathlib.Decide.{dec_lt}
use native.Mathlib.Omega.{arith}
use Rattle.base.specs.Sums.{sum}
use Rattle.base.proofs.Sums.{sum_pos, sum_ge}
use Rattle.block.specs.declared.Task.{Task}
use Rattle.window.specs.Order.{kind_of, rank}
use Rattle.run.specs.Run.{Slot, idle, job, Run, Present, Pending, AtOrAbove, Preemptive}
use Rattle.run.proofs.Behaviour.Accounts.{is_task, served, left, left_over, work, is_pending, service_before, balance}

module _ (n : ℕ) (tk : ℕ → Task) (R : Run) (S : Preemptive n tk R) where
  -- what is left grows by the release and falls by the tick served
  pub step_left : (i t : ℕ) → left_over R i (suc t) + is_task (R.serve t) i ≡ left_over R i t + R.need i t
  unfolding served work sum
  step_left i t = omega (arith, balance n tk R S.pending i t, balance n tk R S.pending i (suc t))

  -- a task with work has a pending job
  has_job : (i t : ℕ) → Present (kind_of (tk i)) R.request t → 0 < left_over R i t + R.need i t → (r : ℕ) × Pending tk R i r t
  unfolding left_over
  has_job i t k h =
      elim (eq-zero-or-pos (left_over R i t)) [
        | inl z ↦ (t, record { released = le_refl t; unfinished = omega (arith, service_before n tk R S.pending i t t (le_refl t)); present = k })
        | inr p ↦
            let w = sum_pos t (λ r. left R i r t) p in
            (w.0, record { released = omega arith; unfinished = omega arith; present = k })
      ]

  -- so where a task has work, a task as high or higher is served
  pub step_top : (i t : ℕ) → i < n → Present (kind_of (tk i)) R.request t → 0 < left_over R i t + R.need i t
      → (j : ℕ) × (r : ℕ) × (R.serve t ≡ job j r) × (rank (tk j) ≤ rank (tk i))
  step_top i t l k h =
      let w = has_job i t k h in
      go w.0 (R.serve t) refl (S.highest t i w.0 l w.1)
    where
      go : (s : ℕ) (σ : Slot) → R.serve t ≡ σ → AtOrAbove tk σ i s → (j : ℕ) × (r : ℕ) × (R.serve t ≡ job j r) × (rank (tk j) ≤ rank (tk i))
      go s idle e a = absurd a
      go s (job j r) e a = (j, r, e, a.0)

  -- and what is served has work
  pub step_served : (j r t : ℕ) → R.serve t ≡ job j r → (j < n) × Present (kind_of (tk j)) R.request t × (0 < left_over R j t + R.need j t)
  unfolding left_over
  step_served j r t e =
      let P = is_pending n tk R S.pending t j r e in (
        P.0,
        P.1.present,
        elim (dec_lt r t) [
          | yes h ↦ omega (arith, sum_ge t (λ s. left R j s t) r h, P.1.unfinished)
          | no h ↦
              let z : r ≡ t = omega (arith, P.1.released) in
              omega (arith, ap (R.need j) z, P.1.unfinished)
        ],
      )
