-- Who goes first is as document 01 says.
use mathlib.Core.Path.{◌≡◌, refl}
use mathlib.Core.List.{map}
use Rattle.window.specs.Order.{rank}
use Rattle.window.specs.Cases.{found, expected, cases}

pub cases_hold : map found cases ≡ map expected cases
unfolding cases rank
cases_hold = refl
