-- The cases of numbers, lines and words hold of the definitions that the contracts cite.
use mathlib.Core.Path.{◌≡◌, refl}
use mathlib.Core.List.{map}
use Rattle.lines.specs.Put.{put, fits, written, next}
use Rattle.lines.specs.Line.{digits, decimal, spaced, rest_of, line_of}
use Rattle.lines.specs.Words.{change_line, letter_at}
use Rattle.lines.specs.Cases.{found_in, expected_in, cases}

pub cases_hold : map found_in cases ≡ map expected_in cases
unfolding cases digits decimal spaced rest_of line_of put fits written next change_line letter_at
cases_hold = refl
