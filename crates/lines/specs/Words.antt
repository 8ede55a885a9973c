-- The words that more than one text begins its lines with. Definitions only.
use Rattle.std.specs.Prelude.{ℕ, zero, suc, List, [], ◌∷◌}
use Rattle.lines.specs.Line.{line_of}

-- c h a n g e, then the old and the new mode number
abbrev pub change_word : List ℕ
change_word = 99 ∷ 104 ∷ 97 ∷ 110 ∷ 103 ∷ 101 ∷ []

unfoldable pub change_line : ℕ → ℕ → List ℕ
change_line a b = line_of change_word (a ∷ b ∷ [])

-- no such line of two modes is longer
abbrev pub most_change : ℕ
most_change = 19

-- a task's letter by the number of its kind: o for a completed task, a for an aborted one, n for a new one
unfoldable pub letter_at : ℕ → ℕ
letter_at zero = 111
letter_at (suc zero) = 97
letter_at (suc (suc k)) = 110
