-- What is printed of a text, line by line. Definitions only.
use Rattle.std.specs.Prelude.{◌≡◌, ℕ, cond, eqb, List, [], ◌∷◌, Option, Result, Ok}
use Rattle.std.specs.List.{onto_first}
use Rattle.std.specs.Fn.{Mut, CalledWithState}
use Rattle.std.specs.Io.KnownBytes.{Appends}
use denote.Ref.{Bor, MutBor}

-- the lines of a text: each ends at a line feed, or where the text ends
abbrev pub lines_of : List ℕ → List (List ℕ)
lines_of [] = []
lines_of (b ∷ text) = cond (eqb b 10) ([] ∷ lines_of text) (onto_first b (lines_of text))

-- A line is written as it stands, then a call of f at it writes what it will, and then comes a line feed.
pub record Answers {W F E : Type 0} (contents : W → Option (List ℕ)) (g : Mut F (MutBor W × (Bor (List ℕ) × Unit {0})) (Result (Unit {0}) E × (MutBor W × Unit {0}))) (s : F × W) (line : List ℕ) (t : F × W) : Type 0 where
  pub before : W
  pub behind : W
  pub shown : Bor (List ℕ)
  pub written : Appends (contents s.1) (contents before) line
  pub shows : shown.now ≡ line
  pub called : CalledWithState g s.0 before shown (Ok tt) t.0 behind
  pub ended : Appends (contents behind) (contents t.1) (10 ∷ [])
