-- In any run a job that ends has waited for all that was released above it, where nothing above vanishes before.
use Prim.Native.Nat.{ℕ, zero, suc, ◌+◌, ◌-◌, ◌≤◌, ◌<◌}
use mathlib.Core.Path.{◌≡◌, ap}
use mathlib.Core.Logic.{inl, inr}
use mathlib.Core.Bool.{Bool}
use native.Mathlib.Nat.{le_refl, eq-zero-or-pos}
use native.Mathlib.Decide.{dec_lt}
use native.Mathlib.Omega.{arith}
use Rattle.base.specs.Sums.{sum}
use Rattle.base.proofs.Sums.{sum_zero, sum_ge}
use Rattle.block.specs.declared.Task.{Task}
use Rattle.window.specs.Order.{kind_of, rank}
use Rattle.run.specs.Run.{job, Run, Job, runs, service, Ended, Present, Preemptive}
use Rattle.run.proofs.Picks.{pick, pick_zero}
use Rattle.run.proofs.Tasks.{Sound}
use Rattle.run.proofs.Analysis.Demands.{over_above, above_le, level_above}
use Rattle.run.proofs.Behaviour.Accounts.{runs_job, served, chosen, left_over, work, is_pending, served_jobs, balance, chosen_served, fill}
use Rattle.run.proofs.Behaviour.Levels.{in_level}
use Rattle.run.proofs.Behaviour.Steps.{step_left, step_top}

-- nothing is released before tick s
abbrev pub NoneBefore : (n : ℕ) → Run → ℕ → Type 0
NoneBefore n R s = (j u : ℕ) → j < n → u < s → R.need j u ≡ 0

-- no job of a task above i vanishes before tick t
abbrev pub AboveStay : (n : ℕ) → (ℕ → Task) → Run → ℕ → ℕ → Type 0
AboveStay n tk R i t = (j u : ℕ) → j < n → rank (tk j) < rank (tk i) → u < t → Present (kind_of (tk j)) R.request u

module _ (n : ℕ) (tk : ℕ → Task) (R : Run) (G : Sound n tk) (S : Preemptive n tk R) where
  last_served : (i r t : ℕ) → Job R i r → Ended R i r t → (f : ℕ) × (f < t) × (R.serve f ≡ job i r) × Ended R i r (suc f)
  unfolding service sum
  last_served i r zero p e = absurd (omega arith)
  last_served i r (suc t) p e =
      elim (eq-zero-or-pos (runs (R.serve t) i r)) [
        | inl z ↦ let f = last_served i r t p (omega arith) in (f.0, omega arith, f.2, f.3)
        | inr z ↦ (t, le_refl (suc t), runs_job (R.serve t) i r z, e)
      ]

  -- a tick that serves i leaves nothing of a task above it
  none_above : (i r f j : ℕ) → R.serve f ≡ job i r → j < n → rank (tk j) < rank (tk i) → Present (kind_of (tk j)) R.request f → left_over R j (suc f) ≡ 0
  none_above i r f j e l h k =
      elim (eq-zero-or-pos (left_over R j f + R.need j f)) [
        | inl z ↦ omega (arith, step_left n tk R S j f)
        | inr z ↦
            let p = step_top n tk R S j f l k z in
            let same : p.0 ≡ i = cc (p.2, e) in
            absurd (omega (arith, p.3, ap (λ (a : ℕ). rank (tk a)) same))
      ]

  -- nothing is served before anything is released
  none_served : (s : ℕ) → NoneBefore n R s → (p : ℕ → Bool) → chosen R p s ≡ 0
  unfolding work
  none_served s none p =
      omega (
        arith,
        chosen_served n tk R S.pending p s,
        sum_zero n (λ j. pick (p j) (served R j s))
            (λ j m. pick_zero (p j) (served R j s) (omega (arith, balance n tk R S.pending j s, sum_zero s (λ u. R.need j u) (λ u v. none j u m v)))),
      )

  -- a job that has ended by t ended at some f by which it, and all that was released above it, was served since s
  pub waited : (i r s t : ℕ) → i < n → NoneBefore n R s → AboveStay n tk R i t → Job R i r → Ended R i r t
      → (f : ℕ) × (s < f) × (f ≤ t) × (R.need i r + over_above n tk i (λ j. work R j f) + s ≤ f)
  waited i r s t l none stay p e =
      let g = last_served i r t p e in
      let f : ℕ = suc g.0 in
      let come = (is_pending n tk R S.pending g.0 i r g.2).1.released in
      let late : s < f = elim (dec_lt g.0 s) [
        | yes v ↦ absurd (omega (arith, none i r l (omega (arith, come))))
        | no v ↦ omega arith
      ] in
      let since : s + (f - s) ≡ f = omega arith in (
        f,
        late,
        omega arith,
        omega (
          arith,
          rw since at (fill n tk R S.pending (in_level tk i) s (f - s)),
          none_served s none (in_level tk i),
          chosen_served n tk R S.pending (in_level tk i) f,
          level_above n tk i G l (λ j. served R j f),
          above_le n tk i (λ j. work R j f) (λ j. served R j f)
              (λ j m h. omega (arith, balance n tk R S.pending j f, none_above i r g.0 j g.2 m h (stay j g.0 m h (omega arith)))),
          served_jobs n tk R S.pending i f,
          -- what i was served is at least what this job was
          sum_ge f (λ s. service R i s f) r (omega (arith, come)),
          g.3,
        ),
      )
