-- A level is a task and those above it. What of it is pending, where nothing is, and that a window with room for all that it brings sees each of its jobs end.
use Prim.Native.Nat.{ℕ, suc, ◌+◌, ◌-◌, ◌≤◌, ◌<◌}
use mathlib.Core.Path.{◌≡◌, refl, ap}
use mathlib.Core.Logic.{inl, inr}
use mathlib.Core.Bool.{Bool, true, false}
use native.Mathlib.Nat.{le_refl}
use native.Mathlib.Decide.{dec_lt, dec_le}
use native.Mathlib.Omega.{arith}
use borrow.Author.Tests.{ltb-true, leb-true, lt-ltb, le-leb}
use lib.Dec.{leb, ltb}
use Rattle.base.specs.Sums.{sum}
use Rattle.base.proofs.Sums.{sum_le, sum_eq, sum_zero, sum_split, sum_pos, sum_add, sum_ge}
use Rattle.base.proofs.Search.{find_zero, last_zero}
use Rattle.block.specs.declared.Task.{Task}
use Rattle.block.specs.declared.Kind.{Kind}
use Rattle.block.specs.declared.Kind.TheVariants.{Completed, Aborted, New}
use Rattle.window.specs.Order.{kind_of, rank}
use Rattle.run.specs.Run.{Slot, idle, job, Run, Job, service, Ended, Present, Pending, AtOrAbove, Preemptive}
use Rattle.run.proofs.Picks.{pick, pick_zero, pick_below, pick_pos}
use Rattle.run.proofs.Behaviour.Accounts.{is_chosen, served, chosen, lost, left, left_over, OnlyPending, service_suc, service_le, service_rises, stays, chosen_served, fill}

-- what of a task is pending at the start of tick t, before its releases: what is left, unless it vanished; and of all chosen tasks
abbrev pub keep : Kind → ℕ → ℕ → ℕ → ℕ
keep Completed q t x = x
keep Aborted q t x = pick (ltb t q) x
keep New q t x = x

unfoldable pub backlog : (ℕ → Task) → Run → ℕ → ℕ → ℕ
backlog tk R i t = keep (kind_of (tk i)) R.request t (left_over R i t)

unfoldable pub level : (n : ℕ) → (ℕ → Task) → Run → (ℕ → Bool) → ℕ → ℕ
level n tk R p t = sum n (λ i. pick (p i) (backlog tk R i t))

-- task i and those above it
abbrev pub in_level : (ℕ → Task) → ℕ → ℕ → Bool
in_level tk i j = leb (rank (tk j)) (rank (tk i))

-- s is the last tick up to r before whose releases nothing of task i or above is pending
pub record LastQuiet (n : ℕ) (tk : ℕ → Task) (R : Run) (i r s : ℕ) : Type 0 where
  pub early : s ≤ r
  pub quiet : level n tk R (in_level tk i) s ≡ 0
  pub since : (u : ℕ) → s < u → u ≤ r → 0 < level n tk R (in_level tk i) u

-- the time that a job of task i, from there to its end, loses to tasks below i is at most B i
abbrev pub Budget : (n : ℕ) → (ℕ → Task) → Run → (ℕ → ℕ) → Type 0
Budget n tk R B =
    (i r s e : ℕ) → i < n → Job R i r → LastQuiet n tk R i r s → s ≤ e → service R i r e < R.need i r → Present (kind_of (tk i)) R.request e
    → lost R (in_level tk i) s (e - s) ≤ B i

-- ---- kinds

-- only aborted jobs vanish
pub others_present : (k : Kind) (q t : ℕ) → (k ≡ Aborted → ⊥) → Present k q t
others_present Completed q t h = tt
others_present Aborted q t h = absurd (h refl)
others_present New q t h = tt

pub keep_le : (k : Kind) (q t x : ℕ) → keep k q t x ≤ x
keep_le Completed q t x = omega arith
keep_le Aborted q t x = pick_below (ltb t q) x x (le_refl x)
keep_le New q t x = omega arith

pub keep_all : (k : Kind) (q t x : ℕ) → Present k q t → keep k q t x ≡ x
keep_all Completed q t x h = refl
keep_all Aborted q t x h = rw (lt-ltb t q (omega arith))
keep_all New q t x h = refl

pub present_early : (k : Kind) (q t : ℕ) → t < q → Present k q t
present_early Completed q t h = tt
present_early Aborted q t h = omega arith
present_early New q t h = tt

pub present_before : (k : Kind) (q t t' : ℕ) → t' ≤ t → Present k q t → Present k q t'
present_before Completed q t t' l h = tt
present_before Aborted q t t' l h = omega arith
present_before New q t t' l h = tt

pub keep_pos : (k : Kind) (q t x : ℕ) → 0 < keep k q t x → Present k q t × (0 < x)
keep_pos Completed q t x h = (tt, h)
keep_pos Aborted q t x h = let p = pick_pos (ltb t q) x h in (omega (arith, ltb-true t q p.0), p.1)
keep_pos New q t x h = (tt, h)

module _ (n : ℕ) (tk : ℕ → Task) (R : Run) (S : OnlyPending n tk R) where
  -- what is pending after a tick, of what was released before or at it, was pending in it
  pub was_pending : (i t : ℕ) → 0 < backlog tk R i (suc t) → (r : ℕ) × Pending tk R i r t
  unfolding backlog left_over
  was_pending i t h =
      let k = keep_pos (kind_of (tk i)) R.request (suc t) (left_over R i (suc t)) h in
      let p = sum_pos (suc t) (λ r. left R i r (suc t)) k.1 in (
        p.0,
        record {
          released = omega arith;
          unfinished = omega (arith, service_suc R i p.0 t);
          present = present_before (kind_of (tk i)) R.request (suc t) t (omega arith) k.0;
        },
      )

  -- what the chosen tasks are served and have pending, from what each of them is and has
  pub by_tasks : (p : ℕ → Bool) (a t : ℕ) (b : ℕ → ℕ)
      → ((i : ℕ) → i < n → p i ≡ true → served R i (a + t) + backlog tk R i (a + t) ≤ served R i a + b i)
      → chosen R p (a + t) + level n tk R p (a + t) ≤ chosen R p a + sum n (λ i. pick (p i) (b i))
  unfolding level
  by_tasks p a t b h =
      omega (
        arith,
        chosen_served n tk R S p a,
        chosen_served n tk R S p (a + t),
        sum_add n (λ i. pick (p i) (served R i (a + t))) (λ i. pick (p i) (backlog tk R i (a + t))),
        sum_add n (λ i. pick (p i) (served R i a)) (λ i. pick (p i) (b i)),
        sum_le n (λ i. pick (p i) (served R i (a + t)) + pick (p i) (backlog tk R i (a + t))) (λ i. pick (p i) (served R i a) + pick (p i) (b i))
            (λ i l. go (p i) (served R i (a + t)) (backlog tk R i (a + t)) (served R i a) (b i) (λ e. h i l e)),
      )
    where
      go : (c : Bool) (w x y z : ℕ) → (c ≡ true → w + x ≤ y + z) → pick c w + pick c x ≤ pick c y + pick c z
      go true w x y z k = k refl
      go false w x y z k = omega arith

  pub quiet_left : (p : ℕ → Bool) (i t : ℕ) → i < n → p i ≡ true → level n tk R p t ≡ 0 → Present (kind_of (tk i)) R.request t → left_over R i t ≡ 0
  unfolding level backlog
  quiet_left p i t l h z k =
      let g = sum_ge n (λ i. pick (p i) (backlog tk R i t)) i l in
      omega (arith, rw h at g, keep_all (kind_of (tk i)) R.request t (left_over R i t) k)

  ended : (i r u : ℕ) → r < u → left_over R i u ≡ 0 → Ended R i r u
  unfolding left_over
  ended i r u h z = omega (arith, service_le n tk R S i r u, sum_ge u (λ r. left R i r u) r h)

  -- nothing is pending before the first tick
  level_zero : (p : ℕ → Bool) → level n tk R p 0 ≡ 0
  unfolding level backlog left_over sum
  level_zero p = sum_zero n (λ i. pick (p i) (backlog tk R i 0)) (λ i l. pick_zero (p i) (backlog tk R i 0) (omega (arith, keep_le (kind_of (tk i)) R.request 0 0)))

  pub start : (i r : ℕ) → (s : ℕ) × LastQuiet n tk R i r s
  start i r =
      let z = last_zero (level n tk R (in_level tk i)) (level_zero (in_level tk i)) r in
      (z.0, record { early = z.1; quiet = z.2; since = z.3 })

  lost_part : (p : ℕ → Bool) (s a t : ℕ) → s ≤ a → lost R p a t ≤ lost R p s (a + t - s)
  unfolding lost
  lost_part p s a t h =
      let e : a + t - s ≡ a - s + t = omega arith in
      rw (e, sum_split (a - s) t (λ k. 1 - is_chosen p (R.serve (s + k))))
      (omega (
        arith,
        sum_eq t (λ k. 1 - is_chosen p (R.serve (a + k))) (λ k. 1 - is_chosen p (R.serve (s + (a - s + k))))
            (λ k m. ap (λ (z : ℕ). 1 - is_chosen p (R.serve z)) (let e : a + k ≡ s + (a - s + k) = omega arith in e)),
      ))

  -- THE CORE: a job whose window closes has ended. s is the last quiet tick up to its release; the window is counted from some a from s on
  pub closes : (B : ℕ → ℕ) → Budget n tk R B → (i r s a t : ℕ) → i < n → Job R i r → LastQuiet n tk R i r s → s ≤ a → 0 < t
      → Present (kind_of (tk i)) R.request (a + t)
      → chosen R (in_level tk i) (a + t) + level n tk R (in_level tk i) (a + t) + B i ≤ chosen R (in_level tk i) a + t
      → Ended R i r (a + t)
  closes B budget i r s a t l job-at z h pt k c =
      elim (dec_lt (service R i r (a + t)) (R.need i r)) [
        | no d ↦ omega (arith, service_le n tk R S i r (a + t))
        | yes d ↦ elim (find_zero (λ k. level n tk R (in_level tk i) (suc (a + k))) t) [
          | inl f ↦ elim (dec_le (suc (a + f.0)) r) [
            | yes m ↦ absurd (omega (arith, z.since (suc (a + f.0)) (omega arith) m))
            | no m ↦
                stays n tk R S i r (suc (a + f.0)) (a + t) (omega arith)
                (ended i r (suc (a + f.0)) (omega arith)
                (quiet_left (in_level tk i) i (suc (a + f.0)) l (le-leb (rank (tk i)) (rank (tk i)) (le_refl (rank (tk i)))) f.2
                (present_before (kind_of (tk i)) R.request (a + t) (suc (a + f.0)) (omega arith) k)))
          ]
          | inr f ↦
              let v = f (t - 1) (omega arith) in
              let e : suc (a + (t - 1)) ≡ a + t = omega arith in
              absurd (omega (
                arith,
                rw e at v,
                fill n tk R S (in_level tk i) a t,
                lost_part (in_level tk i) s a t h,
                budget i r s (a + t) l job-at z (omega arith) d k,
              ))
        ]
      ]

-- ---- where the highest pending job always runs, no job loses a tick to a task below its own

module _ (n : ℕ) (tk : ℕ → Task) (R : Run) (S : Preemptive n tk R) where
  level_top : (σ : Slot) (i j s : ℕ) → AtOrAbove tk σ j s → in_level tk i j ≡ true → is_chosen (in_level tk i) σ ≡ 1
  level_top idle i j s a h = absurd a
  level_top (job k r) i j s a h = rw (le-leb (rank (tk k)) (rank (tk i)) (omega (arith, leb-true (rank (tk j)) (rank (tk i)) h)))

  -- a tick after which something of the level is pending serves the level
  pub busy : (i t : ℕ) → 0 < level n tk R (in_level tk i) (suc t) → is_chosen (in_level tk i) (R.serve t) ≡ 1
  unfolding level
  busy i t h =
      let p = sum_pos n (λ j. pick (in_level tk i j) (backlog tk R j (suc t))) h in
      let c = pick_pos (in_level tk i p.0) (backlog tk R p.0 (suc t)) p.2 in
      let w = was_pending n tk R S.pending p.0 t c.1 in
      level_top (R.serve t) i p.0 w.0 (S.highest t p.0 w.0 p.1 w.1) c.0

  pub unfinished_level : (i r u : ℕ) → i < n → r < u → service R i r u < R.need i r → Present (kind_of (tk i)) R.request u → 0 < level n tk R (in_level tk i) u
  unfolding level backlog left_over
  unfinished_level i r u l h d k =
      let g = sum_ge n (λ j. pick (in_level tk i j) (backlog tk R j u)) i l in
      omega (
        arith,
        rw (le-leb (rank (tk i)) (rank (tk i)) (le_refl (rank (tk i)))) at g,
        keep_all (kind_of (tk i)) R.request u (left_over R i u) k,
        sum_ge u (λ s. left R i s u) r h,
      )

  pub no_loss : Budget n tk R (λ i. 0)
  unfolding lost
  no_loss i r s e l p z h d k =
      omega (arith, sum_zero (e - s) (λ j. 1 - is_chosen (in_level tk i) (R.serve (s + j))) (λ j m. omega (arith, busy i (s + j) (at_j j m))))
    where
      at_j : (j : ℕ) → j < e - s → 0 < level n tk R (in_level tk i) (suc (s + j))
      at_j j m =
          elim (dec_le (suc (s + j)) r) [
            | yes v ↦ z.since (suc (s + j)) (omega arith) v
            | no v ↦
                unfinished_level i r (suc (s + j)) l (omega arith)
                (omega (arith, service_rises R i r (suc (s + j)) e (omega arith)))
                (present_before (kind_of (tk i)) R.request e (suc (s + j)) (omega arith) k)
          ]
