-- What the methods of jobs need of their products and remainders.
use Prim.Native.Nat.{ℕ, ◌+◌, ◌*◌, ◌/◌, ◌%◌, ◌-◌, ◌≤◌, ◌<◌, min}
use mathlib.Core.Path.{◌≡◌, ap}
use native.Mathlib.Omega.{arith}
use native.Mathlib.Nat.{mul-le-mul, div-add-mod'}
use Rattle.base.specs.Numbers.{ceil, jobs_in, cut_in}
use Rattle.base.proofs.Recip.{recip_fits, recip_div}
use Rattle.term.specs.declared.Jobs.{Jobs}
use Rattle.term.specs.Terms.{Good}

pub product_fits : (n : ℕ) (j : Jobs) → Good j → n < 262144 → n * j.recip < 18446744073709551616
product_fits n j g h =
    let r : j.recip ≤ 1099511693312 = omega (arith, g.inverse, recip_fits j.period g.some g.small) in
    omega (arith, mul-le-mul {n₁ = n} {m₁ = j.recip} {n₂ = 262143} (omega arith) r)

pub quotient_is : (n : ℕ) (j : Jobs) → Good j → n < 262144 → n * j.recip / 1099511627776 ≡ n / j.period
quotient_is n j g h = rw g.inverse (recip_div j.period g.some g.small n h)

-- what is left of m when whole periods are taken off
pub rest_is : (m p q : ℕ) → q ≡ m / p → m - q * p ≡ m % p
rest_is m p q e = rw e (omega (arith, div-add-mod' m p))

pub jobs_is : (p c t q : ℕ) → q ≡ (t + (p - 1)) / p → q * c ≡ jobs_in p c t
unfolding jobs_in ceil
jobs_is p c t q e = ap (λ (k : ℕ). k * c) e

pub cut_is : (p c m q r : ℕ) → q ≡ m / p → r ≡ m - q * p → q * c + min r c ≡ cut_in p c m
unfolding cut_in
cut_is p c m q r e d = let a = rest_is m p q e in let b = ap (λ (k : ℕ). k * c) e in omega (arith, a, b, d)
