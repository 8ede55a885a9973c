-- What one task is served and has left in a window that it enters with nothing left: the work that it can have released since.
use Prim.Native.Nat.{ℕ, ◌+◌, ◌-◌, ◌≤◌, ◌<◌, min}
use mathlib.Core.Path.{◌≡◌, sym, ap}
use mathlib.Core.Logic.{inl, inr}
use native.Mathlib.Nat.{le_refl, eq-zero-or-pos, add_assoc}
use native.Mathlib.Decide.{dec_le}
use native.Mathlib.Omega.{arith}
use Rattle.base.specs.Sums.{sum}
use Rattle.base.proofs.Sums.{sum_le, sum_eq, sum_split, sum_ticks, sum_cut, sum_late}
use Rattle.block.specs.declared.Task.{Task}
use Rattle.block.specs.declared.Kind.TheVariants.{Completed, New}
use Rattle.window.specs.Order.{kind_of}
use Rattle.window.specs.Demand.{jobs, cut}
use Rattle.run.specs.Run.{Run, runs, service, MayCome, Releases}
use Rattle.run.proofs.Tasks.{Sound}
use Rattle.run.proofs.Analysis.Counted.{Apart, jobs_most, cut_most}
use Rattle.run.proofs.Behaviour.Accounts.{runs_le, served, left, left_over, work, OnlyPending, service_le, service_before, served_jobs, balance}

module _ (n : ℕ) (tk : ℕ → Task) (R : Run) (G : Sound n tk) (L : Releases n tk R) (S : OnlyPending n tk R) where
  -- ---- one task

  pub work_split : (i a t : ℕ) → work R i (a + t) ≡ work R i a + sum t (λ u. R.need i (a + u))
  unfolding work
  work_split i a t = sum_split a t (λ r. R.need i r)

  pub left_apart : (i t : ℕ) → i < n → Apart (tk i).period (λ r. left R i r t)
  left_apart i t l r d p z m = omega (arith, L.apart i r d l (omega arith) z (omega arith))

  need_apart : (i : ℕ) → i < n → Apart (tk i).period (λ r. R.need i r)
  need_apart i l r d p z m = L.apart i r d l p z (omega arith)

  -- where nothing is left at a, what a task is served and has left is what it released since
  pub since : (i a t : ℕ) → left_over R i a ≡ 0 → served R i (a + t) + left_over R i (a + t) ≡ served R i a + sum t (λ u. R.need i (a + u))
  since i a t z = omega (arith, balance n tk R S i a, balance n tk R S i (a + t), work_split i a t)

  -- of any task
  pub whole_in : (i a t : ℕ) → i < n → left_over R i a ≡ 0 → served R i (a + t) + left_over R i (a + t) ≤ served R i a + jobs (tk i) t
  whole_in i a t l z =
      omega (arith, since i a t z, jobs_most (tk i).period (tk i).execution (R.need i) (G.period i l) (need_apart i l) (λ r. omega (arith, L.fits i r l)) t a)

  -- nothing of a completed task from the request on, nothing of a new one before its offset
  pub none_after : (i : ℕ) → kind_of (tk i) ≡ Completed → i < n → (r : ℕ) → R.request ≤ r → R.need i r ≡ 0
  none_after i e l r h =
      elim (eq-zero-or-pos (R.need i r)) [
        | inl z ↦ z
        | inr p ↦
            let m : MayCome Completed R.request (tk i).offset r = rw e at (L.comes i r l p) in
            absurd (omega arith)
      ]

  pub none_before : (i : ℕ) → kind_of (tk i) ≡ New → i < n → (r : ℕ) → r < R.request + (tk i).offset → R.need i r ≡ 0
  none_before i e l r h =
      elim (eq-zero-or-pos (R.need i r)) [
        | inl z ↦ z
        | inr p ↦
            let m : MayCome New R.request (tk i).offset r = rw e at (L.comes i r l p) in
            absurd (omega arith)
      ]

  -- of a completed task
  pub completed_in : (i a x t : ℕ) → i < n → kind_of (tk i) ≡ Completed → R.request ≡ a + x → left_over R i a ≡ 0
      → served R i (a + t) + left_over R i (a + t) ≤ served R i a + jobs (tk i) (min t x)
  completed_in i a x t l e q z =
      omega (
        arith,
        since i a t z,
        sum_cut t x (λ u. R.need i (a + u)) (λ u h. none_after i e l (a + u) (omega arith)),
        jobs_most (tk i).period (tk i).execution (R.need i) (G.period i l) (need_apart i l) (λ r. omega (arith, L.fits i r l)) (min t x) a,
      )

  -- of a new task
  pub new_in : (i a x t : ℕ) → i < n → kind_of (tk i) ≡ New → R.request ≡ a + x → left_over R i a ≡ 0
      → served R i (a + t) + left_over R i (a + t) ≤ served R i a + jobs (tk i) (t - x - (tk i).offset)
  new_in i a x t l e q z =
      let y : t - (x + (tk i).offset) ≡ t - x - (tk i).offset = omega arith in
      omega (
        arith,
        ap (jobs (tk i)) y,
        since i a t z,
        sum_late t (x + (tk i).offset) (λ u. R.need i (a + u)) (λ u h. none_before i e l (a + u) (omega arith)),
        sum_eq (t - (x + (tk i).offset)) (λ k. R.need i (a + (x + (tk i).offset + k))) (λ k. R.need i (a + (x + (tk i).offset) + k)) (λ k h. ap (R.need i) (sym (add_assoc a (x + (tk i).offset) k))),
        jobs_most (tk i).period (tk i).execution (R.need i) (G.period i l) (need_apart i l) (λ r. omega (arith, L.fits i r l)) (t - (x + (tk i).offset)) (a + (x + (tk i).offset)),
      )

  -- of any task: what it is served in m ticks, where its last job may be cut off
  in_time : (i a m u : ℕ) → service R i (a + u) (a + m) ≤ m - u
  unfolding service
  in_time i a m u =
      elim (dec_le u m) [
        | yes h ↦
            let e : a + m ≡ a + u + (m - u) = omega arith in
            rw (e, sum_split (a + u) (m - u) (λ v. runs (R.serve v) i (a + u)))
            (omega (
              arith,
              service_before n tk R S i (a + u) (a + u) (le_refl (a + u)),
              sum_ticks (m - u) (λ k. runs (R.serve (a + u + k)) i (a + u)) (λ k v. runs_le (R.serve (a + u + k)) i (a + u)),
            ))
        | no h ↦ omega (arith, service_before n tk R S i (a + u) (a + m) (omega arith))
      ]

  pub cut_in : (i a m : ℕ) → i < n → left_over R i a ≡ 0 → served R i (a + m) ≤ served R i a + cut (tk i) m
  unfolding work
  cut_in i a m l z =
      omega (
        arith,
        served_jobs n tk R S i (a + m),
        sum_split a m (λ r. service R i r (a + m)),
        sum_le a (λ r. service R i r (a + m)) (λ r. R.need i r) (λ r h. service_le n tk R S i r (a + m)),
        balance n tk R S i a,
        cut_most (tk i).period (tk i).execution (G.period i l) m (λ r. service R i r (a + m)) a
            (λ r d p y h. omega (arith, service_le n tk R S i r (a + m), service_le n tk R S i (r + d) (a + m), L.apart i r d l (omega (arith, service_le n tk R S i r (a + m))) y (omega arith)))
            (λ u h. (omega (arith, service_le n tk R S i (a + u) (a + m), L.fits i (a + u) l), in_time i a m u)),
      )
