-- What releases at least T ticks apart, of at most C ticks each, bring into a window: whole jobs, and jobs cut off at its end. Releases every T ticks bring just that.
use Prim.Native.Nat.{ℕ, zero, suc, ◌+◌, ◌-◌, ◌*◌, ◌%◌, ◌≤◌, ◌<◌, min}
use mathlib.Core.Path.{◌≡◌, sym, ap, ◌∙◌}
use mathlib.Core.Logic.{inl, inr}
use native.Mathlib.Nat.{le_refl, add_assoc, zero-add, eq-zero-or-pos, add-div_left, add-mod, add-mod_left, div-eq_of_lt, mod-eq_of_lt, le-min}
use native.Mathlib.Decide.{dec_lt, dec_le}
use native.Mathlib.Omega.{arith}
use borrow.Author.Tests.{eqb-true, ne_eqb}
use lib.Arith.{digits_mod}
use lib.Dec.{eqb}
use Rattle.base.specs.Sums.{sum}
use Rattle.base.specs.Numbers.{ceil, jobs_in, cut_in}
use Rattle.base.proofs.Sums.{sum_eq, sum_zero, sum_split}
use Rattle.base.proofs.Numbers.{strong, ceil_add, ceil_one, digits, jobs_none, jobs_whole, jobs_begun}
use Rattle.run.proofs.Picks.{pick, pick_pos, pick_below}

abbrev pub Apart : ℕ → (ℕ → ℕ) → Type 0
Apart T g = (r d : ℕ) → 0 < g r → 0 < d → d < T → g (r + d) ≡ 0

-- a window no longer than T has at most one release
pub one_release : (T : ℕ) (g : ℕ → ℕ) (a K m : ℕ) → Apart T g → m ≤ T → ((u : ℕ) → u < m → g (a + u) ≤ K) → sum m (λ u. g (a + u)) ≤ K
unfolding sum
one_release T g a K zero far l h = omega arith
one_release T g a K (suc m) far l h =
    elim (eq-zero-or-pos (g (a + m))) [
      | inl e ↦ omega (arith, one_release T g a K m far (omega arith) (λ u v. h u (omega arith)))
      | inr p ↦
          let none : (u : ℕ) → u < m → g (a + u) ≡ 0
          = λ u v. elim (eq-zero-or-pos (g (a + u))) [
            | inl e ↦ e
            | inr k ↦
                let e : a + u + (m - u) ≡ a + m = omega arith in
                absurd (omega (arith, ap g e, far (a + u) (m - u) k (omega arith) (omega arith)))
          ] in
          omega (arith, sum_zero m (λ u. g (a + u)) none, h m (le_refl (suc m)))
    ]

-- the first T ticks of a window and the rest of it
first_period : (T : ℕ) (g : ℕ → ℕ) (a k : ℕ) → sum (T + k) (λ u. g (a + u)) ≡ sum T (λ u. g (a + u)) + sum k (λ u. g (a + T + u))
first_period T g a k =
    omega (
      arith,
      sum_split T k (λ u. g (a + u)),
      sum_eq k (λ u. g (a + (T + u))) (λ u. g (a + T + u)) (λ u v. ap g (sym (add_assoc a T u))),
    )

-- whole jobs
pub jobs_most : (T C : ℕ) (g : ℕ → ℕ) → 0 < T → Apart T g → ((r : ℕ) → g r ≤ C) → (m a : ℕ) → sum m (λ u. g (a + u)) ≤ jobs_in T C m
unfolding sum jobs_in
jobs_most T C g p_t far h = strong (λ m. (a : ℕ) → sum m (λ u. g (a + u)) ≤ jobs_in T C m) step
  where
    step : (m : ℕ) → ((k : ℕ) → k < m → (a : ℕ) → sum k (λ u. g (a + u)) ≤ ceil k T * C) → (a : ℕ) → sum m (λ u. g (a + u)) ≤ ceil m T * C
    step m ih a =
        elim (eq-zero-or-pos m) [
          | inl e ↦ rw e (omega arith)
          | inr p ↦ elim (dec_le m T) [
            | yes l ↦ rw (ceil_one m T p l) (omega (arith, one_release T g a C m far l (λ u v. h (a + u))))
            | no l ↦
                let k : ℕ = m - T in
                let e : m ≡ T + k = omega arith in
                rw (e, ceil_add k T p_t)
                (omega (arith, first_period T g a k, one_release T g a C T far (le_refl T) (λ u v. h (a + u)), ih k (omega arith) (a + T)))
          ]
        ]

-- where a job also uses no more ticks than its release leaves in the window
pub cut_most : (T C : ℕ) → 0 < T → (m : ℕ) (g : ℕ → ℕ) (a : ℕ) → Apart T g → ((u : ℕ) → u < m → (g (a + u) ≤ C) × (g (a + u) ≤ m - u))
    → sum m (λ u. g (a + u)) ≤ cut_in T C m
unfolding cut_in
cut_most T C p_t = strong P step
  where
    P : ℕ → Type 0
    P m = (g : ℕ → ℕ) (a : ℕ) → Apart T g → ((u : ℕ) → u < m → (g (a + u) ≤ C) × (g (a + u) ≤ m - u)) → sum m (λ u. g (a + u)) ≤ cut_in T C m

    step : (m : ℕ) → ((k : ℕ) → k < m → P k) → P m
    step m ih g a far h =
        elim (dec_lt m T) [
          | yes l ↦
              rw (div-eq_of_lt l, mod-eq_of_lt l)
              (omega (arith, one_release T g a (min C m) m far (omega arith) (λ u v. le-min (h u v).0 (omega (arith, (h u v).1)))))
          | no l ↦
              let k : ℕ = m - T in
              let e : m ≡ T + k = omega arith in
              rw (e, add-div_left k p_t, add-mod_left T k)
              (omega (
                arith,
                first_period T g a k,
                one_release T g a C T far (le_refl T) (λ u v. (h u (omega arith)).0),
                ih k (omega arith) g (a + T) far (λ u v. rw (add_assoc a T u) ((h (T + u) (omega arith)).0, omega (arith, (h (T + u) (omega arith)).1))),
              ))
        ]

-- ---- C ticks every T ticks from 0 on

unfoldable pub every : ℕ → ℕ → ℕ → ℕ
every T C r = pick (eqb (r % T) 0) C

pub every_le : (T C r : ℕ) → every T C r ≤ C
unfolding every
every_le T C r = pick_below (eqb (r % T) 0) C C (le_refl C)

pub every_apart : (T C : ℕ) → Apart T (every T C)
unfolding every
every_apart T C r d h p l =
    let z : r % T ≡ 0 = eqb-true (r % T) 0 (pick_pos (eqb (r % T) 0) C h).0 in
    let e : (r + d) % T ≡ d
    = add-mod r d T ∙ ap (λ (z : ℕ). (z + d % T) % T) z ∙ ap (λ (z : ℕ). z % T) (zero-add (d % T)) ∙ ap (λ (z : ℕ). z % T) (mod-eq_of_lt l) ∙ mod-eq_of_lt l in
    rw (e, ne_eqb d 0 (omega arith))

every_at : (T C m k r : ℕ) → r < T → m ≡ k * T + r → every T C m ≡ pick (eqb r 0) C
unfolding every
every_at T C m k r l e = rw (ap (λ (z : ℕ). z % T) e ∙ digits_mod k l)

pub every_sum : (T C : ℕ) → 0 < T → (m : ℕ) → sum m (every T C) ≡ jobs_in T C m
unfolding sum
every_sum T C p zero = sym (jobs_none T C p)
every_sum T C p (suc m) = go (digits T m p).k (digits T m p).r (digits T m p).low (digits T m p).is (every_sum T C p m)
  where
    go : (k r : ℕ) → r < T → m ≡ k * T + r → sum m (every T C) ≡ jobs_in T C m → sum m (every T C) + every T C m ≡ jobs_in T C (suc m)
    go k zero l e ih =
        omega (arith, every_at T C m k zero l e, jobs_whole T C m k p e, jobs_begun T C (suc m) k 0 p (omega arith))
    go k (suc r) l e ih =
        omega (
          arith,
          rw (ne_eqb (suc r) 0 (omega arith)) at (every_at T C m k (suc r) l e),
          jobs_begun T C m k r (omega arith) e,
          jobs_begun T C (suc m) k (suc r) l (omega arith),
        )
