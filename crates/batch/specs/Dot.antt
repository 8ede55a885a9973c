-- The line that ends the lines of an input. Definitions only.
use Rattle.std.specs.Prelude.{ℕ, List, [], ◌∷◌}

-- a dot and a line feed
abbrev pub dot_line : List ℕ
dot_line = 46 ∷ 10 ∷ []
