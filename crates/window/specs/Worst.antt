-- The worst window over all phases from 1 to D, with its smallest phase, or the first late phase. Definitions only.
use Rattle.std.specs.Prelude.{ℕ, zero, suc, cond, ltb, Option, None, Some, Result, Ok, Err}
use Rattle.window.specs.declared.Worst.{Worst}

-- a window met at a phase: kept where it is larger than all before it
unfoldable pub take_of : Worst → ℕ → ℕ → Worst
take_of s t x = cond (ltb s.window t) (record { window = t; phase = x }) s

-- one phase more; the first phase without a window ends it
unfoldable pub next_of : Result Worst ℕ → Option ℕ → ℕ → Result Worst ℕ
next_of (Ok s) (Some t) x = Ok (take_of s t x)
next_of (Ok s) None x = Err x
next_of (Err y) w x = Err y

-- the windows g 1, .. , g n
unfoldable pub sweep : (ℕ → Option ℕ) → ℕ → Result Worst ℕ
sweep g zero = Ok (record { window = 0; phase = 0 })
sweep g (suc n) = next_of (sweep g n) (g (suc n)) (suc n)
