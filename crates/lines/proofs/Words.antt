-- Laws of the words: how long the line of a change gets, the same numbers under other names, and the letter of a new task.
use Prim.Native.Nat.{ℕ, ◌≤◌, ◌<◌}
use mathlib.Core.Path.{◌≡◌}
use mathlib.Core.List.{[], ◌∷◌}
use native.Mathlib.Omega.{arith}
use lib.ListN.{length, length-append}
use Rattle.lines.specs.Line.{spaced, rest_of, line_of}
use Rattle.lines.specs.Words.{change_word, change_line, most_change}
use Rattle.lines.proofs.Decimal.{digits_few}

pub change_room : (a b : ℕ) → a < 65536 → b < 65536 → length (change_line a b) ≤ most_change
unfolding change_line line_of rest_of spaced
change_room a b ha hb = simp length-append (omega (arith, digits_few 5 a (omega arith) (omega arith) (omega arith), digits_few 5 b (omega arith) (omega arith) (omega arith)))

pub change_line_lem : (a b m n : ℕ) → m ≡ a → n ≡ b → line_of change_word (m ∷ n ∷ []) ≡ change_line a b
unfolding change_line
change_line_lem a b m n e f = rw (e, f)
