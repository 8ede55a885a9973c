-- Laws of the ceiling, of whole and of cut-off jobs: they rise, and how large they get.
use Prim.Native.Nat.{ℕ, zero, suc, ◌+◌, ◌*◌, ◌/◌, ◌%◌, ◌-◌, ◌≤◌, ◌<◌, min}
use mathlib.Core.Path.{◌≡◌, sym, ap}
use mathlib.Core.Logic.{⊎_elim}
use native.Mathlib.Omega.{arith}
use lib.Arith.{digits_div, digits_mod}
use Rattle.base.specs.Numbers.{ceil, jobs_in, cut_in}
use native.Mathlib.Nat.{eq-or-lt_of_le, div-zero, le-div_iff_mul-le, div-mul-le_self, le_trans, mul-le-mul_right, mul-le-mul, div-add-mod', suc-mul, div-le_self, add_assoc, add-div_left, div-eq_of_lt, mod-lt, le_refl, not-suc-le-zero}

pub div_le : (p a b : ℕ) → a ≤ b → a / p ≤ b / p
div_le zero a b h = omega (arith, div-zero a, div-zero b)
div_le (suc p) a b h = (le-div_iff_mul-le {k = suc p} (omega arith)).1 (le_trans (div-mul-le_self a (suc p)) h)

pub jobs_rise : (p c s t : ℕ) → s ≤ t → jobs_in p c s ≤ jobs_in p c t
unfolding jobs_in ceil
jobs_rise p c s t h = mul-le-mul_right c (div_le p (s + (p - 1)) (t + (p - 1)) (omega arith))

pub jobs_small : (p c t : ℕ) → t < 262144 → p < 65536 → c < 65536 → jobs_in p c t < 34359738368
unfolding jobs_in ceil
jobs_small p c t ht hp hc = omega (arith, mul-le-mul {m₁ = c} {n₂ = 327678} {m₂ = 65535} q (omega arith))
  where
    q : (t + (p - 1)) / p ≤ 327678
    q = omega (arith, div-le_self (t + (p - 1)) p)

pub cut_rises : (p c a b : ℕ) → a ≤ b → cut_in p c a ≤ cut_in p c b
unfolding cut_in
cut_rises p c a b h = ⊎_elim same less (eq-or-lt_of_le (div_le p a b h))
  where
    same : a / p ≡ b / p → a / p * c + min c (a % p) ≤ b / p * c + min c (b % p)
    same e =
        let ec : a / p * c ≡ b / p * c = ap (λ (q : ℕ). q * c) e in
        let ep : a / p * p ≡ b / p * p = ap (λ (q : ℕ). q * p) e in
        omega (arith, div-add-mod' a p, div-add-mod' b p)

    less : a / p < b / p → a / p * c + min c (a % p) ≤ b / p * c + min c (b % p)
    less l = omega (arith, mul-le-mul_right c l, suc-mul (a / p) c)

pub cut_small : (p c m : ℕ) → m < 262144 → c < 65536 → cut_in p c m < 34359738368
unfolding cut_in
cut_small p c m hm hc = omega (arith, mul-le-mul {m₁ = c} {n₂ = 262143} {m₂ = 65535} q (omega arith))
  where
    q : m / p ≤ 262143
    q = omega (arith, div-le_self m p)

-- ---- the ceiling

pub ceil_zero : (T : ℕ) → 0 < T → ceil 0 T ≡ 0
unfolding ceil
ceil_zero T h = div-eq_of_lt (omega arith)

pub ceil_add : (m T : ℕ) → 0 < T → ceil (T + m) T ≡ ceil m T + 1
unfolding ceil
ceil_add m T h = rw add_assoc (add-div_left (m + (T - 1)) h)

pub ceil_one : (m T : ℕ) → 0 < m → m ≤ T → ceil m T ≡ 1
unfolding ceil
ceil_one m T h l =
    let e : m + (T - 1) ≡ T + (m - 1) = omega arith in
    rw (e, add-div_left (m - 1) {k = T} (omega arith)) (omega (arith, div-eq_of_lt {n = m - 1} {m = T} (omega arith)))

-- ---- whole and cut-off jobs by the digits of the time: k whole periods and r ticks

pub record Digits (T t : ℕ) : Type 0 where
  pub k : ℕ
  pub r : ℕ
  pub low : r < T
  pub is : t ≡ k * T + r

pub digits : (T t : ℕ) → 0 < T → Digits T t
digits T t p = record { k = t / T; r = t % T; low = mod-lt t p; is = sym (div-add-mod' t T) }

pub jobs_none : (T C : ℕ) → 0 < T → jobs_in T C 0 ≡ 0
unfolding jobs_in
jobs_none T C p = rw (ceil_zero T p) (omega arith)

-- no more than one job in one period
pub jobs_own : (T C t : ℕ) → 0 < T → t ≤ T → jobs_in T C t ≤ C
unfolding jobs_in
jobs_own T C t p h = omega (arith, jobs_rise T C t T h, one)
  where
    one : ceil T T * C ≡ C
    one = rw (ceil_one T T p (le_refl T)) (omega arith)

pub jobs_whole : (T C t k : ℕ) → 0 < T → t ≡ k * T + 0 → jobs_in T C t ≡ k * C
unfolding jobs_in ceil
jobs_whole T C t k p e =
    let f : t + (T - 1) ≡ k * T + (T - 1) = omega arith in
    rw (f, digits_div k {m = T} {r = T - 1} (omega arith))

pub jobs_begun : (T C t k r : ℕ) → r < T → t ≡ k * T + suc r → jobs_in T C t ≡ k * C + C
unfolding jobs_in ceil
jobs_begun T C t k r h e =
    let f : t + (T - 1) ≡ suc k * T + r = omega (arith, suc-mul k T) in
    rw (f, digits_div (suc k) h) (suc-mul k C)

pub cut_is : (T C t k r : ℕ) → r < T → t ≡ k * T + r → cut_in T C t ≡ k * C + min C r
unfolding cut_in
cut_is T C t k r h e = rw (e, digits_div k h, digits_mod k h)

-- a cut-off job is no more than the whole one
pub cut_le : (T C t : ℕ) → 0 < T → cut_in T C t ≤ jobs_in T C t
cut_le T C t p = go (digits T t p).k (digits T t p).r (digits T t p).low (digits T t p).is
  where
    go : (k r : ℕ) → r < T → t ≡ k * T + r → cut_in T C t ≤ jobs_in T C t
    go k zero l e = omega (arith, cut_is T C t k 0 l e, jobs_whole T C t k p e)
    go k (suc r) l e = omega (arith, cut_is T C t k (suc r) l e, jobs_begun T C t k r (omega arith) e)

-- where a cut-off job is not yet whole, the last tick was its own
pub cut_grows : (T C t : ℕ) → 0 < T → cut_in T C (suc t) < jobs_in T C (suc t) → cut_in T C t < cut_in T C (suc t)
cut_grows T C t p h = go (digits T (suc t) p).k (digits T (suc t) p).r (digits T (suc t) p).low (digits T (suc t) p).is
  where
    go : (k r : ℕ) → r < T → suc t ≡ k * T + r → cut_in T C t < cut_in T C (suc t)
    go k zero l e = absurd (omega (arith, h, cut_is T C (suc t) k 0 l e, jobs_whole T C (suc t) k p e))
    go k (suc r) l e =
        omega (arith, h, cut_is T C (suc t) k (suc r) l e, cut_is T C t k r (omega arith) (omega arith), jobs_begun T C (suc t) k r (omega arith) e)

-- ---- induction over all smaller numbers

pub strong {ℓ} : (P : ℕ → Type ℓ) → ((n : ℕ) → ((k : ℕ) → k < n → P k) → P n) → (n : ℕ) → P n
strong P step n = go (suc n) n (le_refl (suc n))
  where
    go : (f m : ℕ) → m < f → P m
    go zero m h = absurd (not-suc-le-zero h)
    go (suc f) m h = step m (λ k l. go f k (omega arith))
