-- The largest of some bytes is zero exactly if all of them are: one byte more.
use Prim.Native.Nat.{ℕ, ◌+◌, ◌<◌, max}
use mathlib.Core.Path.{◌≡◌}
use mathlib.Core.Bool.{◌&&◌}
use mathlib.Core.List.{List, [], ◌∷◌, ◌++◌}
use lib.Dec.{eqb}
use lib.ListN.{length, get_or, take}
use lib.Seq.{take-suc}
use native.Mathlib.Numerals.{add-one}
use native.Mathlib.Omega.{arith}
use Rattle.base.specs.Lists.{every}
use Rattle.block.specs.Record.{all_zero}

zero_end : (l : List ℕ) (b : ℕ) → all_zero (l ++ (b ∷ [])) ≡ all_zero l && eqb b 0
unfolding every
zero_end [] b = grind arith
zero_end (x ∷ xs) b = rw (zero_end xs b) (grind arith)

zero_max : (m b : ℕ) → eqb (max m b) 0 ≡ eqb m 0 && eqb b 0
zero_max m b = grind arith

pub zeros_more : (l : List ℕ) (i m b : ℕ) → i < length l → b ≡ get_or l i 0 → eqb m 0 ≡ all_zero (take i l) → eqb (max m b) 0 ≡ all_zero (take (i + 1) l)
zeros_more l i m b h e z = rw (add-one, take-suc l i 0 h, zero_end (take i l) (get_or l i 0), ← e, ← z) (zero_max m b)
