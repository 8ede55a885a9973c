-- Laws of the search: what a found number tells, the climb to the least window, and closing anywhere bounds it.
use Prim.Native.Nat.{ℕ, zero, suc, ◌+◌, ◌-◌, ◌≤◌, ◌<◌}
use mathlib.Core.Path.{◌≡◌, refl, sym, ap, ◌∙◌}
use mathlib.Core.Bool.{Bool, true, false}
use Rattle.std.specs.Prelude.{Option, None, Some}
use mathlib.Core.Logic.{◌⊎◌, inl, inr, ⊎_elim}
use native.Mathlib.Omega.{arith}
use native.Mathlib.Nat.{eq-or-lt_of_le, lt_of_not-le, eq-zero-or-pos, le_refl, not-suc-le-zero}
use native.Mathlib.Decide.{dec_le, dec_lt}
use lib.Dec.{leb}
use Rattle.base.specs.Search.{first_where, closes, window_of, Climbs}
use borrow.Author.Tests.{le-leb, lt-leb, leb-true, leb-false}

pub where_at : (p : ℕ → Bool) (k n s : ℕ) → s ≤ k → k < s + n → ((u : ℕ) → s ≤ u → u < k → p u ≡ false) → p k ≡ true → first_where p n s ≡ Some k
unfolding first_where
where_at p k zero s h l b m = absurd (omega arith)
where_at p k (suc n) s h l b m =
    ⊎_elim
    (λ e. let f : p s ≡ true = rw e m in rw f (ap Some e))
    (λ g. rw (b s (omega arith) g) (where_at p k n (suc s) g (omega arith) (λ u a c. b u (omega arith) c) m))
    (eq-or-lt_of_le h)

pub where_none : (p : ℕ → Bool) (n s : ℕ) → ((u : ℕ) → s ≤ u → u < s + n → p u ≡ false) → first_where p n s ≡ None
unfolding first_where
where_none p zero s b = refl
where_none p (suc n) s b = rw (b s (omega arith) (omega arith)) (where_none p n (suc s) (λ u a c. b u (omega arith) (omega arith)))

abbrev pub Rises : (ℕ → ℕ) → Type 0
Rises f = (s t : ℕ) → s ≤ t → f s ≤ f t

pub le_or_lt : (a b : ℕ) → (a ≤ b) ⊎ (b < a)
le_or_lt a b = elim (dec_le a b) [ yes h ↦ inl h | no n ↦ inr (lt_of_not-le n) ]

rise : (f : ℕ → ℕ) (t : ℕ) → Rises f → ((u : ℕ) → u < t → u < f u) → (u : ℕ) → u < f t → u < f u
rise f t r b u h = ⊎_elim (λ g. omega (arith, r t u g)) (λ g. b u g) (le_or_lt t u)

module _ (f : ℕ → ℕ) (limit : ℕ) where
  pub climb_start : (c : ℕ) → 1 ≤ c → c ≤ limit → ((u : ℕ) → c ≤ f u) → Climbs f limit c
  climb_start c h l b = record { first = h; within = l; up = b c; unmet = λ u g. omega (arith, b u) }

  pub climb_next : (t d : ℕ) → Rises f → Climbs f limit t → d ≡ f t → d ≤ limit → Climbs f limit d
  climb_next t d r k e l =
      record {
        first = omega (arith, k.up, k.first);
        within = l;
        up = omega (arith, k.up, r t d (omega (arith, k.up)));
        unmet = λ u g. rise f t r k.unmet u (omega arith);
      }

  pub climb_at : (t d : ℕ) → Climbs f limit t → d ≡ f t → d ≡ t → window_of f limit ≡ Some t
  unfolding window_of
  climb_at t d k e m = where_at _ t limit 1 k.first (omega (arith, k.within)) (λ u a l. lt-leb (f u) u (k.unmet u l)) (le-leb (f t) t (omega arith))

  pub climb_late : (t d : ℕ) → Rises f → Climbs f limit t → d ≡ f t → limit < d → window_of f limit ≡ None
  unfolding window_of
  climb_late t d r k e l = where_none _ limit 1 (λ u a h. lt-leb (f u) u (rise f t r k.unmet u (omega arith)))

-- ---- what a found number tells, and when one is found

pub either : (b : Bool) → (b ≡ true) ⊎ (b ≡ false)
either true = inl refl
either false = inr refl

pub record Found (p : ℕ → Bool) (n s k : ℕ) : Type 0 where
  pub holds : p k ≡ true
  pub from : s ≤ k
  pub under : k < s + n
  pub none_before : (u : ℕ) → s ≤ u → u < k → p u ≡ false

pub where_found : (p : ℕ → Bool) (n s k : ℕ) → first_where p n s ≡ Some k → Found p n s k
unfolding first_where
where_found p zero s k e = let z : ◌≡◌ {A = ℕ} 0 1 = cc in absurd (omega arith)
where_found p (suc n) s k e = ⊎_elim now (later (where_found p n (suc s) k)) (either (p s))
  where
    now : p s ≡ true → Found p (suc n) s k
    now h =
        let q : Some s ≡ Some k = sym (rw h) ∙ e in
        let r : s ≡ k = cc in
        record { holds = ap p (sym r) ∙ h; from = omega arith; under = omega arith; none_before = λ u a l. absurd (omega arith) }

    later : (first_where p n (suc s) ≡ Some k → Found p n (suc s) k) → p s ≡ false → Found p (suc n) s k
    later again h =
        let q : first_where p n (suc s) ≡ Some k = rw h at e in
        let f = again q in
        record {
          holds = f.holds;
          from = omega (arith, f.from);
          under = omega (arith, f.under);
          none_before = λ u a l. ⊎_elim (λ i. ap p (sym i) ∙ h) (λ i. f.none_before u i l) (eq-or-lt_of_le a);
        }

-- a number at which p holds: the first one is no later
pub record Within (o : Option ℕ) (k : ℕ) : Type 0 where
  pub at : ℕ
  pub is : o ≡ Some at
  pub by : at ≤ k

pub where_within : (p : ℕ → Bool) (n s k : ℕ) → s ≤ k → k < s + n → p k ≡ true → Within (first_where p n s) k
unfolding first_where
where_within p zero s k a l h = absurd (omega arith)
where_within p (suc n) s k a l h = ⊎_elim now (later (λ i. where_within p n (suc s) k i (omega arith) h)) (either (p s))
  where
    now : p s ≡ true → Within (first_where p (suc n) s) k
    now e = record { at = s; is = rw e; by = a }

    later : (s < k → Within (first_where p n (suc s)) k) → p s ≡ false → Within (first_where p (suc n) s) k
    later again e =
        ⊎_elim
        (λ i. let z : true ≡ false = sym h ∙ (ap p (sym i) ∙ e) in let z0 : ◌≡◌ {A = ℕ} 0 1 = cc in absurd (omega arith))
        (λ i. let f = again i in record { at = f.at; is = rw e f.is; by = f.by })
        (eq-or-lt_of_le a)

pub record Window (f : ℕ → ℕ) (limit w : ℕ) : Type 0 where
  pub closes : f w ≤ w
  pub first : 1 ≤ w
  pub within : w ≤ limit
  pub unmet : (u : ℕ) → 1 ≤ u → u < w → u < f u

module _ (f : ℕ → ℕ) (limit : ℕ) where
  pub window_found : (w : ℕ) → window_of f limit ≡ Some w → Window f limit w
  unfolding window_of
  window_found w e =
      let k = where_found (closes f) limit 1 w e in
      record { closes = leb-true (f w) w k.holds; first = k.from; within = omega (arith, k.under); unmet = λ u a l. leb-false (f u) u (k.none_before u a l) }

  -- closing anywhere bounds the window
  pub window_by : (v : ℕ) → 1 ≤ v → v ≤ limit → f v ≤ v → Within (window_of f limit) v
  unfolding window_of
  window_by v h l e = where_within (closes f) limit 1 v h (omega arith) (le-leb (f v) v e)

  -- a climb may start wherever nothing below closes
  pub climb_from : (t : ℕ) → Rises f → 1 ≤ t → t ≤ limit → ((u : ℕ) → u < t → u < f u) → Climbs f limit t
  climb_from t r h l b = record { first = h; within = l; up = omega (arith, b (t - 1) (omega arith), r (t - 1) t (omega arith)); unmet = b }

-- only the times up to the limit count
where_same : (p q : ℕ → Bool) (n s : ℕ) → ((u : ℕ) → s ≤ u → u < s + n → p u ≡ q u) → first_where p n s ≡ first_where q n s
unfolding first_where
where_same p q zero s h = refl
where_same p q (suc n) s h = rw (h s (omega arith) (omega arith), where_same p q n (suc s) (λ u a b. h u (omega arith) (omega arith)))

pub window_same : (f g : ℕ → ℕ) (limit : ℕ) → ((u : ℕ) → u ≤ limit → f u ≡ g u) → window_of f limit ≡ window_of g limit
unfolding window_of
window_same f g limit h = where_same (closes f) (closes g) limit 1 (λ u a b. ap (λ (k : ℕ). leb k u) (h u (omega arith)))

-- ---- where a function is zero

-- some k below t with f k zero, or none
pub find_zero : (f : ℕ → ℕ) (t : ℕ) → ((k : ℕ) × (k < t) × (f k ≡ 0)) ⊎ ((k : ℕ) → k < t → 0 < f k)
find_zero f zero = inr (λ k l. absurd (not-suc-le-zero l))
find_zero f (suc t) =
    elim (find_zero f t) [
      | inl p ↦ inl (p.0, omega arith, p.2)
      | inr h ↦ elim (eq-zero-or-pos (f t)) [
        | inl e ↦ inl (t, le_refl (suc t), e)
        | inr p ↦ inr (λ k l. elim (dec_lt k t) [
          | yes m ↦ h k m
          | no m ↦ let e : t ≡ k = omega arith in omega (arith, ap f e)
        ])
      ]
    ]

-- the last s up to r with f s zero
pub last_zero : (f : ℕ → ℕ) → f 0 ≡ 0 → (r : ℕ) → (s : ℕ) × (s ≤ r) × (f s ≡ 0) × ((u : ℕ) → s < u → u ≤ r → 0 < f u)
last_zero f z zero = (0, omega arith, z, λ u l m. absurd (omega arith))
last_zero f z (suc r) =
    elim (eq-zero-or-pos (f (suc r))) [
      | inl e ↦ (suc r, le_refl (suc r), e, λ u l m. absurd (omega arith))
      | inr p ↦
          let h = last_zero f z r in (
            h.0,
            omega arith,
            h.2,
            λ u l m. elim (dec_le u r) [
              | yes k ↦ h.3 u l k
              | no k ↦ let e : suc r ≡ u = omega arith in omega (arith, ap f e)
            ],
          )
    ]
