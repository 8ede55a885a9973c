-- `recip` divides 2^31 and takes what is left over 512-fold: together that is 2^40 over p, rounded up.
use native.Mathlib.Omega.{arith}
use native.Mathlib.Nat.{div-add-mod', mod-lt, mul_assoc, mul-add-div_right}
use Prim.Native.Nat.{ℕ, ◌+◌, ◌*◌, ◌-◌, ◌/◌, ◌≤◌, ◌<◌}
use mathlib.Core.Path.{◌≡◌}
use Rattle.base.specs.Numbers.{recip_of}

pub part : (p : ℕ) → 2147483648 / p * p ≤ 2147483648
part p = omega (arith, div-add-mod' 2147483648 p)

pub left : (p : ℕ) → 1 ≤ p → 2147483648 - 2147483648 / p * p < p
left p h = omega (arith, div-add-mod' 2147483648 p, mod-lt 2147483648 h)

pub split : (p : ℕ) → 1 ≤ p → 512 * (2147483648 / p) + (512 * (2147483648 - 2147483648 / p * p) + (p - 1)) / p ≡ recip_of p
unfolding recip_of
split p h =
    let e : 1099511627776 + (p - 1) ≡ 512 * (2147483648 / p) * p + (512 * (2147483648 - 2147483648 / p * p) + (p - 1)) = omega (arith, part p, mul_assoc 512 (2147483648 / p) p) in
    let s = mul-add-div_right h (512 * (2147483648 / p)) (512 * (2147483648 - 2147483648 / p * p) + (p - 1)) in
    rw (e, s)
