-- A level's account in the four windows: before the request, past it, after it, and from the request on. Each fits where its demand closes.
use Prim.Native.Nat.{ℕ, ◌+◌, ◌-◌, ◌≤◌, ◌<◌, min}
use mathlib.Core.Path.{◌≡◌, refl, sym, ap, ◌∙◌}
use mathlib.Core.Bool.{true}
use native.Mathlib.Nat.{le_refl, min-eq_right, zero-add}
use native.Mathlib.Decide.{dec_le, ℕ_discrete}
use native.Mathlib.Omega.{arith}
use borrow.Author.Tests.{le-ltb, ne_eqb}
use Rattle.base.specs.Sums.{sum}
use Rattle.base.proofs.Sums.{sum_eq, sum_zero, sum_split}
use Rattle.base.proofs.Numbers.{jobs_none, jobs_own}
use Rattle.block.specs.declared.Task.{Task}
use Rattle.block.specs.declared.Kind.{Kind}
use Rattle.block.specs.declared.Kind.TheVariants.{Completed, Aborted, New}
use Rattle.window.specs.Order.{kind_of}
use Rattle.run.specs.Run.{Slot, idle, job, Run, Ended, Present, Releases}
use Rattle.run.proofs.Tasks.{Sound, by_kind}
use Rattle.run.proofs.Analysis.Counted.{one_release}
use Rattle.run.proofs.Analysis.Demands.{over_above, steady_old, steady_new, at_phase, from_request, demand_old, demand_new, demand_phase, demand_request, level_above}
use Rattle.run.proofs.Behaviour.Accounts.{is_task, served, chosen, left, left_over, work, OnlyPending, is_pending, stays, balance}
use Rattle.run.proofs.Behaviour.Levels.{backlog, level, in_level, keep_le, present_early, by_tasks, quiet_left}
use Rattle.run.proofs.Result.Shares.{work_split, left_apart, since, whole_in, none_after, none_before, completed_in, new_in, cut_in}

-- a window no longer than the period holds one job of a task
old_own : (k : Kind) (a : Task) (t : ℕ) → 0 < a.period → t ≤ a.period → steady_old k a t ≤ a.execution
old_own Completed a t p h = jobs_own a.period a.execution t p h
old_own Aborted a t p h = jobs_own a.period a.execution t p h
old_own New a t p h = omega arith

new_own : (k : Kind) (a : Task) (t : ℕ) → 0 < a.period → t ≤ a.period → steady_new k a t ≤ a.execution
new_own Completed a t p h = omega arith
new_own Aborted a t p h = omega arith
new_own New a t p h = jobs_own a.period a.execution t p h

module _ (n : ℕ) (tk : ℕ → Task) (R : Run) (G : Sound n tk) (L : Releases n tk R) (S : OnlyPending n tk R) where
  -- an aborted task is not served from the request on, and has nothing pending
  gone : (i t : ℕ) → kind_of (tk i) ≡ Aborted → R.request ≤ t → backlog tk R i t ≡ 0
  unfolding backlog
  gone i t e h = rw (e, le-ltb t R.request (omega arith))

  not_served : (i u : ℕ) → kind_of (tk i) ≡ Aborted → R.request ≤ u → is_task (R.serve u) i ≡ 0
  not_served i u e h = go (R.serve u) refl
    where
      go : (σ : Slot) → R.serve u ≡ σ → is_task σ i ≡ 0
      go idle f = refl
      go (job j s) f =
          elim (ℕ_discrete j i) [
            | yes z ↦
                let k : Present Aborted R.request u = rw (z, e) at (is_pending n tk R S u j s f).1.present in
                absurd (omega arith)
            | no d ↦ rw (ne_eqb j i d)
          ]

  stopped : (i a t : ℕ) → kind_of (tk i) ≡ Aborted → R.request ≤ a → served R i (a + t) ≡ served R i a
  unfolding served
  stopped i a t e h =
      omega (
        arith,
        sum_split a t (λ u. is_task (R.serve u) i),
        sum_zero t (λ k. is_task (R.serve (a + k)) i) (λ k m. not_served i (a + k) e (omega arith)),
      )

  -- ---- the windows

  -- what task j is served and has pending after t ticks from a on is b more than it was served
  abbrev Brings : ℕ → ℕ → ℕ → ℕ → Type 0
  Brings j a t b = served R j (a + t) + backlog tk R j (a + t) ≤ served R j a + b

  -- what task i and those above it are served and have pending after t ticks from a on leaves K of them
  abbrev pub Fits : ℕ → ℕ → ℕ → ℕ → Type 0
  Fits i a t K = chosen R (in_level tk i) (a + t) + level n tk R (in_level tk i) (a + t) + K ≤ chosen R (in_level tk i) a + t

  -- the level's account, from a bound on each task's
  account : (i a t K : ℕ) (b : ℕ → ℕ) → i < n
      → ((j : ℕ) → j < n → in_level tk i j ≡ true → Brings j a t (b j))
      → b i ≤ (tk i).execution → (tk i).execution + over_above n tk i b + K ≤ t
      → Fits i a t K
  account i a t K b l h own c = omega (arith, by_tasks n tk R S (in_level tk i) a t b h, level_above n tk i G l b)

  pend_le : (j t : ℕ) → backlog tk R j t ≤ left_over R j t
  unfolding backlog
  pend_le j t = keep_le (kind_of (tk j)) R.request t (left_over R j t)

  -- before the request, which comes x ticks after a quiet tick s
  pub before : (i s x t K : ℕ) → i < n → level n tk R (in_level tk i) s ≡ 0 → R.request ≡ s + x → 0 < x → t ≤ x → t ≤ (tk i).period → demand_old n tk i t + K ≤ t → Fits i s t K
  before i s x t K l z q p h d c =
      account i s t K (λ j. steady_old (kind_of (tk j)) (tk j) t) l at_j (old_own (kind_of (tk i)) (tk i) t (G.period i l) d) c
    where
      at_j : (j : ℕ) → j < n → in_level tk i j ≡ true → Brings j s t (steady_old (kind_of (tk j)) (tk j) t)
      at_j j m k =
          let y = quiet_left n tk R S (in_level tk i) j s m k z (present_early (kind_of (tk j)) R.request s (omega arith)) in
          by_kind (λ κ. Brings j s t (steady_old κ (tk j) t)) (kind_of (tk j))
          (λ e. omega (arith, whole_in n tk R G L S j s t m y, pend_le j (s + t)))
          (λ e. omega (arith, whole_in n tk R G L S j s t m y, pend_le j (s + t)))
          (λ e.
          let w : t - x - (tk j).offset ≡ 0 = omega arith in
          let v = new_in n tk R G L S j s x t m e q y in
          omega (arith, rw (w, jobs_none (tk j).period (tk j).execution (G.period j m)) at v, pend_le j (s + t)))

  -- past the request
  pub past : (i s x t K : ℕ) → i < n → kind_of (tk i) ≡ Completed → level n tk R (in_level tk i) s ≡ 0 → R.request ≡ s + x → 0 < x → x < t → t ≤ (tk i).period → demand_phase n tk i x t + K ≤ t → Fits i s t K
  past i s x t K l ki z q p h d c =
      account i s t K (λ j. at_phase (kind_of (tk j)) (tk j) x t) l at_j (rw ki (jobs_own (tk i).period (tk i).execution (min t x) (G.period i l) (omega arith))) c
    where
      at_j : (j : ℕ) → j < n → in_level tk i j ≡ true → Brings j s t (at_phase (kind_of (tk j)) (tk j) x t)
      at_j j m k =
          let y = quiet_left n tk R S (in_level tk i) j s m k z (present_early (kind_of (tk j)) R.request s (omega arith)) in
          by_kind (λ κ. Brings j s t (at_phase κ (tk j) x t)) (kind_of (tk j))
          (λ e. omega (arith, completed_in n tk R G L S j s x t m e q y, pend_le j (s + t)))
          (λ e.
          let w : s + t ≡ s + x + (t - x) = omega arith in
          let v : served R j (s + t) ≡ served R j (s + x) = ap (served R j) w ∙ stopped j (s + x) (t - x) e (omega arith) in
          rw (min-eq_right {n = x} {m = t} (omega arith)) (omega (arith, cut_in n tk R G L S j s x m y, gone j (s + t) e (omega arith))))
          (λ e. omega (arith, new_in n tk R G L S j s x t m e q y, pend_le j (s + t)))

  -- from the request on: steady in the new mode, from a quiet tick
  pub after : (i s t K : ℕ) → i < n → level n tk R (in_level tk i) s ≡ 0 → R.request ≤ s → t ≤ (tk i).period → demand_new n tk i t + K ≤ t → Fits i s t K
  after i s t K l z q d c =
      account i s t K (λ j. steady_new (kind_of (tk j)) (tk j) t) l at_j (new_own (kind_of (tk i)) (tk i) t (G.period i l) d) c
    where
      at_j : (j : ℕ) → j < n → in_level tk i j ≡ true → Brings j s t (steady_new (kind_of (tk j)) (tk j) t)
      at_j j m k =
          by_kind (λ κ. Brings j s t (steady_new κ (tk j) t)) (kind_of (tk j))
          (λ e.
          let y = quiet_left n tk R S (in_level tk i) j s m k z (rw e tt) in
          omega (
            arith,
            since n tk R G L S j s t y,
            sum_zero t (λ u. R.need j (s + u)) (λ u v. none_after n tk R G L S j e m (s + u) (omega arith)),
            pend_le j (s + t),
          ))
          (λ e. omega (arith, stopped j s t e q, gone j (s + t) e (omega arith)))
          (λ e.
          let y = quiet_left n tk R S (in_level tk i) j s m k z (rw e tt) in
          omega (arith, whole_in n tk R G L S j s t m y, pend_le j (s + t)))

  -- at the request a completed task whose jobs end within its period has at most one job pending
  one_left : (j : ℕ) → j < n → ((r : ℕ) → Ended R j r (r + (tk j).period)) → (q : ℕ) → left_over R j q ≤ (tk j).execution
  unfolding left_over
  one_left j m h q =
      elim (dec_le q (tk j).period) [
        | yes l ↦
            omega (
              arith,
              sum_eq q (λ r. left R j r q) (λ r. left R j (0 + r) q) (λ r v. ap (λ (z : ℕ). left R j z q) (sym (zero-add r))),
              one_release (tk j).period (λ r. left R j r q) 0 (tk j).execution q (left_apart n tk R G L S j q m) l (λ u v. omega (arith, L.fits j (0 + u) m)),
            )
        | no l ↦
            let a : ℕ = q - (tk j).period in
            let e : q ≡ a + (tk j).period = omega arith in
            omega (
              arith,
              ap (λ (z : ℕ). sum z (λ r. left R j r q)) e,
              sum_split a (tk j).period (λ r. left R j r q),
              sum_zero a (λ r. left R j r q) (λ r v. omega (arith, h r, stays n tk R S j r (r + (tk j).period) q (omega arith) (h r))),
              one_release (tk j).period (λ r. left R j r q) a (tk j).execution (tk j).period (left_apart n tk R G L S j q m) (le_refl (tk j).period) (λ u v. omega (arith, L.fits j (a + u) m)),
            )
      ]

  -- from the request on, whatever is pending
  pub onward : (i t K : ℕ) → i < n → kind_of (tk i) ≡ New
      → ((j r : ℕ) → j < n → kind_of (tk j) ≡ Completed → Ended R j r (r + (tk j).period))
      → t ≤ (tk i).offset + (tk i).period → demand_request n tk i t + K ≤ t → Fits i R.request t K
  unfolding work
  onward i t K l ki ends d c =
      account i q t K (λ j. from_request (kind_of (tk j)) (tk j) t) l at_j (rw ki (jobs_own (tk i).period (tk i).execution (t - (tk i).offset) (G.period i l) (omega arith))) c
    where
      q : ℕ
      q = R.request

      at_j : (j : ℕ) → j < n → in_level tk i j ≡ true → Brings j q t (from_request (kind_of (tk j)) (tk j) t)
      at_j j m k =
          by_kind (λ κ. Brings j q t (from_request κ (tk j) t)) (kind_of (tk j))
          (λ e.
          omega (
            arith,
            balance n tk R S j q,
            balance n tk R S j (q + t),
            work_split n tk R G L S j q t,
            sum_zero t (λ u. R.need j (q + u)) (λ u v. none_after n tk R G L S j e m (q + u) (omega arith)),
            one_left j m (λ r. ends j r m e) q,
            pend_le j (q + t),
          ))
          (λ e. omega (arith, stopped j q t e (le_refl q), gone j (q + t) e (omega arith)))
          (λ e.
          let y : left_over R j q ≡ 0
          = omega (arith, balance n tk R S j q, sum_zero q (λ r. R.need j r) (λ r v. none_before n tk R G L S j e m r (omega arith))) in
          let w = new_in n tk R G L S j q 0 t m e (omega arith) y in
          let z : t - 0 - (tk j).offset ≡ t - (tk j).offset = omega arith in
          omega (arith, rw z at w, pend_le j (q + t)))
