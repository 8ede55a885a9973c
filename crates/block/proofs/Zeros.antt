-- Bytes are all zero exactly if they add up to zero, and exactly if they are so many zeros.
use Prim.Native.Nat.{ℕ, zero, suc, ◌+◌, ◌≤◌}
use mathlib.Core.Path.{◌≡◌, refl, ap}
use mathlib.Core.Bool.{true}
use mathlib.Core.List.{List, [], ◌∷◌}
use lib.Dec.{eqb}
use lib.ListN.{length, replicate, length-replicate, get_or-replicate}
use borrow.Author.Tests.{eq-eqb, ne_eqb, eqb-true}
use native.Mathlib.Omega.{arith}
use Rattle.base.specs.Lists.{every}
use Rattle.base.specs.Sums.{sum_of}
use Rattle.base.proofs.Lists.{every_all, and_left, and_right}
use Rattle.block.specs.Record.{all_zero}

-- two numbers that are zero together
pub same_zero : (m n : ℕ) → m ≤ n → (m ≡ 0 → n ≡ 0) → eqb m 0 ≡ eqb n 0
same_zero zero n h f = let e : n ≡ 0 = f refl in rw e
same_zero (suc m) n h f = rw (ne_eqb (suc m) 0 (λ e. omega arith), ne_eqb n 0 (λ e. omega arith))

pub zero_sum : (l : List ℕ) → eqb (sum_of (λ b. b) l) 0 ≡ all_zero l
unfolding sum_of every
zero_sum [] = refl
zero_sum (zero ∷ bs) = let e : 0 + sum_of (λ b. b) bs ≡ sum_of (λ b. b) bs = omega arith in rw e (zero_sum bs)
zero_sum (suc b ∷ bs) = rw (ne_eqb (suc b) 0 (λ e. omega arith)) (ne_eqb (suc b + sum_of (λ b. b) bs) 0 (λ e. omega arith))

pub zeros_zero : (n : ℕ) → all_zero (replicate n 0) ≡ true
zeros_zero n =
    every_all (λ b. eqb b 0) (replicate n 0) 0
    (λ i h. eq-eqb _ 0 (get_or-replicate n i 0 0 (omega (arith, length-replicate {A = ℕ} n 0))))

pub zeros_are : (l : List ℕ) → all_zero l ≡ true → l ≡ replicate (length l) 0
unfolding every
zeros_are [] e = refl
zeros_are (b ∷ bs) e =
    let z : b ≡ 0 = eqb-true b 0 (and_left (eqb b 0) (all_zero bs) e) in
    rw z (ap (λ (l : List ℕ). 0 ∷ l) (zeros_are bs (and_right (eqb b 0) (all_zero bs) e)))
