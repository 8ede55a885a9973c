-- Document 01: where the window closes before the request, it is the steady window. So a phase at or past the deadline gives the steady window again.
use Prim.Native.Nat.{ℕ, zero, suc, ◌+◌, ◌-◌, ◌≤◌, ◌<◌, min}
use mathlib.Core.Path.{◌≡◌, refl, ap, ◌∙◌}
use mathlib.Core.Bool.{Bool, true, false, cond}
use mathlib.Core.Logic.{inl, inr}
use mathlib.Core.List.{List}
use Rattle.std.specs.Prelude.{Option, None, Some}
use lib.ListN.{length, get_or}
use native.Mathlib.Omega.{arith}
use native.Mathlib.Nat.{le_refl, eq-zero-or-pos, not-suc-le-zero, zero-mul}
use Rattle.base.specs.Sums.{sum}
use Rattle.base.specs.Numbers.{ceil, jobs_in}
use Rattle.base.specs.Search.{window_of}
use Rattle.base.proofs.Sums.{sum_le, sum_lt, sum_pos, sum_add, list_places, list_none}
use Rattle.base.proofs.Numbers.{jobs_rise, cut_rises, ceil_zero, cut_le, cut_grows}
use Rattle.base.proofs.Search.{Within, window_found, window_by}
use Rattle.block.specs.declared.Task.{Task}
use Rattle.block.specs.Checks.{no_task}
use Rattle.block.specs.Legal.{Legal}
use Rattle.block.specs.declared.Kind.{Kind}
use Rattle.block.specs.declared.Kind.TheVariants.{Completed, Aborted, New}
use Rattle.window.specs.Order.{kind_at, kind_of, above}
use Rattle.window.specs.Demand.{own_time, sum_above, jobs, old_term, steady_demand, phase_demand}

-- ---- the same for an old task

pub old_rises : (k : Kind) (x : Task) (a b : ℕ) → a ≤ b → old_term k x a ≤ old_term k x b
old_rises Completed x a b h = jobs_rise x.period x.execution a b h
old_rises Aborted x a b h = cut_rises x.period x.execution a b h
old_rises New x a b h = omega arith

old_le : (k : ℕ) (x : Task) (t : ℕ) → k < 2 → 1 ≤ x.period → old_term (kind_at k) x t ≤ jobs x t
old_le zero x t l p = le_refl (jobs x t)
old_le (suc zero) x t l p = cut_le x.period x.execution t p
old_le (suc (suc k)) x t l p = absurd (omega arith)

pub old_grows : (k : ℕ) (x : Task) (t : ℕ) → k < 2 → 1 ≤ x.period → old_term (kind_at k) x (suc t) < jobs x (suc t) → old_term (kind_at k) x t < old_term (kind_at k) x (suc t)
old_grows zero x t l p h = absurd (omega arith)
old_grows (suc zero) x t l p h = cut_grows x.period x.execution t p h
old_grows (suc (suc k)) x t l p h = absurd (omega arith)

pub cond_le : (b : Bool) (m n : ℕ) → m ≤ n → cond b m 0 ≤ cond b n 0
cond_le true m n h = h
cond_le false m n h = omega arith

pub cond_lt : (b : Bool) (l m n : ℕ) → (m < n → l < m) → cond b m 0 < cond b n 0 → cond b l 0 < cond b m 0
cond_lt true l m n h q = h q
cond_lt false l m n h q = absurd (omega arith)

cond_none : (b : Bool) (m : ℕ) → m ≡ 0 → cond b m 0 ≡ 0
cond_none true m h = h
cond_none false m h = refl

-- ---- two demands that close by the same times have one window

pub record Closed (f : ℕ → ℕ) (t : ℕ) : Type 0 where
  pub at : ℕ
  pub first : 1 ≤ at
  pub by : at ≤ t
  pub closes : f at ≤ at

module _ (limit : ℕ) where
  abbrev Carries : (ℕ → ℕ) → (ℕ → ℕ) → Type 0
  Carries f g = (t : ℕ) → 1 ≤ t → t ≤ limit → f t ≤ t → Closed g t

  carried : (f g : ℕ → ℕ) (s : ℕ) → Carries f g → window_of f limit ≡ Some s → Within (window_of g limit) s
  carried f g s h e =
      let w = window_found f limit s e in
      let k = h s w.first w.within w.closes in
      let v = window_by g limit k.at k.first (omega (arith, k.by, w.within)) k.closes in
      record { at = v.at; is = v.is; by = omega (arith, v.by, k.by) }

  same_window : (f g : ℕ → ℕ) → Carries f g → Carries g f → window_of f limit ≡ window_of g limit
  same_window f g a b = go (window_of f limit) (window_of g limit) refl refl
    where
      go : (o p : Option ℕ) → window_of f limit ≡ o → window_of g limit ≡ p → window_of f limit ≡ window_of g limit
      go None None q r = cc
      go (Some s) None q r = let w = carried f g s a q in let e : window_of g limit ≡ Some w.at = w.is in let z : ◌≡◌ {A = ℕ} 0 1 = cc in absurd (omega arith)
      go None (Some t) q r = let w = carried g f t b r in let e : window_of f limit ≡ Some w.at = w.is in let z : ◌≡◌ {A = ℕ} 0 1 = cc in absurd (omega arith)
      go (Some s) (Some t) q r =
          let v = carried f g s a q in
          let w = carried g f t b r in
          let e : window_of g limit ≡ Some v.at = v.is in
          let i : window_of f limit ≡ Some w.at = w.is in
          let m : v.at ≡ t = cc in
          let n : w.at ≡ s = cc in
          let l : s ≡ t = omega (arith, v.by, w.by) in
          cc

-- ---- n whole terms f, and cut-off ones g that grow wherever they are below: where these close, the whole ones do, or sooner

module _ (n C : ℕ) (f g : ℕ → ℕ → ℕ) (some : 1 ≤ C)
    (up : (t j : ℕ) → j < n → g t j ≤ g (suc t) j)
    (grow : (t j : ℕ) → j < n → g (suc t) j < f (suc t) j → g t j < g (suc t) j) where
  pub full : (t : ℕ) → 1 ≤ t → C + sum n (g t) ≤ t → Closed (λ u. C + sum n (f u)) t
  full zero h c = absurd (not-suc-le-zero h)
  full (suc t) h c =
      elim (eq-zero-or-pos (sum n (λ j. f (suc t) j - g (suc t) j))) [
        | inl z ↦
            record {
              at = suc t;
              first = h;
              by = le_refl (suc t);
              closes = omega (arith, sum_add n (g (suc t)) (λ j. f (suc t) j - g (suc t) j), sum_le n (f (suc t)) (λ j. g (suc t) j + (f (suc t) j - g (suc t) j)) (λ j l. omega arith));
            }
        | inr z ↦
            let w = sum_pos n (λ j. f (suc t) j - g (suc t) j) z in
            let l = sum_lt n (g t) (g (suc t)) (up t) w.0 w.1 (grow t w.0 w.1 (omega (arith, w.2))) in
            let r = full t (omega arith) (omega arith) in
            record { at = r.at; first = r.first; by = omega (arith, r.by); closes = r.closes }
      ]

-- ---- the theorem

pub jobs_none : (T C : ℕ) → jobs_in T C 0 ≡ 0
unfolding jobs_in ceil
jobs_none zero C = zero-mul C
jobs_none (suc T) C = rw (ceil_zero (suc T) (omega arith)) (zero-mul C)

module _ (olds news : List Task) (i : Task) (legal : Legal 0 olds) (some : 1 ≤ own_time i) where
  abbrev task : ℕ → Task
  task j = get_or olds j no_task

  abbrev whole : ℕ → ℕ → ℕ
  whole t j = cond (above i (task j)) (jobs (task j) t) 0

  abbrev before : ℕ → ℕ → ℕ
  before t j = cond (above i (task j)) (old_term (kind_of (task j)) (task j) t) 0

  steady_is : (t : ℕ) → steady_demand olds i t ≡ own_time i + sum (length olds) (whole t)
  unfolding steady_demand sum_above
  steady_is t = omega (arith, list_places (λ k. cond (above i k) (jobs k t) 0) olds no_task)

  phase_is : (x t : ℕ) → t ≤ x → phase_demand olds news i x t ≡ own_time i + sum (length olds) (before t)
  unfolding phase_demand sum_above
  phase_is x t h =
      let m : min t x ≡ t = omega arith in
      rw m (omega (arith, list_places (λ k. cond (above i k) (old_term (kind_of k) k t) 0) olds no_task, list_none (λ k. cond (above i k) (jobs k (t - x - k.offset)) 0) nothing news))
    where
      nothing : (k : Task) → cond (above i k) (jobs k (t - x - k.offset)) 0 ≡ 0
      nothing k =
          let z : t - x - k.offset ≡ 0 = omega arith in
          cond_none (above i k) _ (ap (jobs_in k.period k.execution) z ∙ jobs_none k.period k.execution)

  -- up to a limit before the request, the window at a phase is the steady window
  pub later_is_steady : (x limit : ℕ) → limit ≤ x → window_of (phase_demand olds news i x) limit ≡ window_of (steady_demand olds i) limit
  later_is_steady x limit h =
      same_window limit (phase_demand olds news i x) (steady_demand olds i) there back
    where
      there : (t : ℕ) → 1 ≤ t → t ≤ limit → phase_demand olds news i x t ≤ t → Closed (steady_demand olds i) t
      there t f l c =
          let r = full (length olds) (own_time i) whole before some
          (λ u j m. cond_le (above i (task j)) _ _ (old_rises (kind_of (task j)) (task j) u (suc u) (omega arith)))
          (λ u j m. cond_lt (above i (task j)) _ _ _ (old_grows (task j).kind (task j) u ((legal.rules j m).old refl) (legal.rules j m).period))
          t f (omega (arith, phase_is x t (omega arith))) in
          record { at = r.at; first = r.first; by = r.by; closes = omega (arith, r.closes, steady_is r.at) }

      back : (t : ℕ) → 1 ≤ t → t ≤ limit → steady_demand olds i t ≤ t → Closed (phase_demand olds news i x) t
      back t f l c =
          record {
            at = t;
            first = f;
            by = le_refl t;
            closes = omega (arith, phase_is x t (omega arith), steady_is t, sum_le (length olds) (before t) (whole t) (λ j m. cond_le (above i (task j)) _ _ (old_le (task j).kind (task j) t ((legal.rules j m).old refl) (legal.rules j m).period)));
          }
