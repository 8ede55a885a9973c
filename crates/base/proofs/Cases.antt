-- Small cases of lists and sums, which no table of the crates above tells apart.
use Prim.Native.Nat.{ℕ, ◌+◌, ◌*◌}
use mathlib.Core.Path.{◌≡◌, refl}
use mathlib.Core.List.{[], ◌∷◌}
use Rattle.base.specs.Lists.{up_to, over}
use Rattle.base.specs.Sums.{sum}

-- values in order; a list laid over the front of a longer one and of a shorter one; a sum
pub cases_hold : (up_to (λ k. k * k) 4 ≡ 0 ∷ 1 ∷ 4 ∷ 9 ∷ []) × (over {A = ℕ} (1 ∷ 2 ∷ []) (7 ∷ 8 ∷ 9 ∷ []) ≡ 1 ∷ 2 ∷ 9 ∷ [])
    × (over {A = ℕ} (1 ∷ 2 ∷ []) (7 ∷ []) ≡ 1 ∷ []) × (sum 4 (λ k. k + 5) ≡ 26)
unfolding up_to over sum
cases_hold = (refl, refl, refl, refl)
