-- Up to the end of x's period an old task's part does not grow, once its whole time is counted at x.
use Prim.Native.Nat.{ℕ, ◌+◌, ◌*◌, ◌/◌, ◌%◌, ◌-◌, ◌≤◌, ◌<◌, min}
use mathlib.Core.Path.{◌≡◌, ap}
use mathlib.Core.Logic.{⊎_elim}
use native.Mathlib.Omega.{arith}
use native.Mathlib.Nat.{le-div_iff_mul-le, div-lt_iff_lt-mul, mul-le-mul_right, div-add-mod', add-mul, le_of_mul-le-mul_right}
use Rattle.base.proofs.Search.{le_or_lt}
use Rattle.base.specs.Numbers.{ceil, jobs_in, cut_in}

module _ (p c x y : ℕ) (some : 1 ≤ p) (near : y ≤ x - x % p + p) where
  pub jobs_flat : 1 ≤ x % p → jobs_in p c y ≤ jobs_in p c x
  unfolding jobs_in ceil
  jobs_flat h = mul-le-mul_right c (omega (arith, under, over))
    where
      under : (y + (p - 1)) / p < x / p + 2
      under = (div-lt_iff_lt-mul {k = p} some).1 (omega (arith, div-add-mod' x p, add-mul (x / p) 2 p))

      over : x / p + 1 ≤ (x + (p - 1)) / p
      over = (le-div_iff_mul-le {k = p} some).1 (omega (arith, div-add-mod' x p, add-mul (x / p) 1 p))

  pub cut_flat : c ≤ x % p → cut_in p c y ≤ cut_in p c x
  unfolding cut_in
  cut_flat h = ⊎_elim low high (le_or_lt (y / p) (x / p))
    where
      low : y / p ≤ x / p → y / p * c + min c (y % p) ≤ x / p * c + min c (x % p)
      low l = omega (arith, mul-le-mul_right c l)

      high : x / p < y / p → y / p * c + min c (y % p) ≤ x / p * c + min c (x % p)
      high l =
          let a : y / p * p ≤ (x / p + 1) * p = omega (arith, div-add-mod' x p, div-add-mod' y p, add-mul (x / p) 1 p) in
          let b : y / p ≤ x / p + 1 = le_of_mul-le-mul_right a some in
          let e : y / p ≡ x / p + 1 = omega arith in
          let ec : y / p * c ≡ (x / p + 1) * c = ap (λ (k : ℕ). k * c) e in
          let ep : y / p * p ≡ (x / p + 1) * p = ap (λ (k : ℕ). k * p) e in
          omega (arith, div-add-mod' x p, div-add-mod' y p, add-mul (x / p) 1 p, add-mul (x / p) 1 c)
