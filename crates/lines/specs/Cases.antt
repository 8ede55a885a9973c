-- Cases of numbers, lines and words as bytes, worked out by hand: each with the bytes that it is to give. Definitions only.
use Rattle.std.specs.Prelude.{ℕ, List, [], ◌∷◌, length}
use Rattle.lines.specs.Put.{put, written, next}
use Rattle.lines.specs.Line.{decimal, spaced, rest_of, line_of}
use Rattle.lines.specs.Words.{change_line, most_change, letter_at}

pub record Case : Type 0 where
  pub found : List ℕ
  pub expected : List ℕ

abbrev pub gives : List ℕ → List ℕ → Case
gives l m = record { found = l; expected = m }

abbrev pub found_in : Case → List ℕ
found_in c = c.found

abbrev pub expected_in : Case → List ℕ
expected_in c = c.expected

-- five bytes to write into
abbrev pub five : List ℕ
five = 1 ∷ 2 ∷ 3 ∷ 4 ∷ 5 ∷ []

unfoldable pub cases : List Case
cases =
    -- "0", "9", "10", "65535", "4294967295", "18446744073709551615"
    gives (decimal 0) (48 ∷ []) ∷ gives (decimal 9) (57 ∷ []) ∷ gives (decimal 10) (49 ∷ 48 ∷ [])
    ∷ gives (decimal 65535) (54 ∷ 53 ∷ 53 ∷ 51 ∷ 53 ∷ [])
    ∷ gives (decimal 4294967295) (52 ∷ 50 ∷ 57 ∷ 52 ∷ 57 ∷ 54 ∷ 55 ∷ 50 ∷ 57 ∷ 53 ∷ [])
    ∷ gives (decimal 18446744073709551615) (49 ∷ 56 ∷ 52 ∷ 52 ∷ 54 ∷ 55 ∷ 52 ∷ 52 ∷ 48 ∷ 55 ∷ 51 ∷ 55 ∷ 48 ∷ 57 ∷ 53 ∷ 53 ∷ 49 ∷ 54 ∷ 49 ∷ 53 ∷ [])
    -- " 7 10", the same with a line feed, and "x 7 10"; a word alone
    ∷ gives (spaced (7 ∷ 10 ∷ [])) (32 ∷ 55 ∷ 32 ∷ 49 ∷ 48 ∷ []) ∷ gives (rest_of (7 ∷ 10 ∷ [])) (32 ∷ 55 ∷ 32 ∷ 49 ∷ 48 ∷ 10 ∷ [])
    ∷ gives (line_of (120 ∷ []) (7 ∷ 10 ∷ [])) (120 ∷ 32 ∷ 55 ∷ 32 ∷ 49 ∷ 48 ∷ 10 ∷ []) ∷ gives (line_of (120 ∷ 121 ∷ []) []) (120 ∷ 121 ∷ 10 ∷ [])
    -- two bytes put into the middle; up to the end they fit, a place further they don't
    ∷ gives (put five 1 (8 ∷ 9 ∷ [])) (1 ∷ 8 ∷ 9 ∷ 4 ∷ 5 ∷ [])
    ∷ gives (written five 3 (8 ∷ 9 ∷ [])) (1 ∷ 2 ∷ 3 ∷ 8 ∷ 9 ∷ []) ∷ gives (written five 4 (8 ∷ 9 ∷ [])) five
    ∷ gives (next five 3 (8 ∷ 9 ∷ []) ∷ []) (5 ∷ []) ∷ gives (next five 4 (8 ∷ 9 ∷ []) ∷ []) (4 ∷ [])
    -- "change 1 20", and the longest such line; the letters of kinds 0, 1, 2 and of what is none
    ∷ gives (change_line 1 20) (99 ∷ 104 ∷ 97 ∷ 110 ∷ 103 ∷ 101 ∷ 32 ∷ 49 ∷ 32 ∷ 50 ∷ 48 ∷ 10 ∷ []) ∷ gives (length (change_line 65535 65535) ∷ []) (most_change ∷ [])
    ∷ gives (letter_at 0 ∷ letter_at 1 ∷ letter_at 2 ∷ letter_at 3 ∷ []) (111 ∷ 97 ∷ 110 ∷ 110 ∷ [])
    ∷ []
