-- Lists: a part, the values at the first places, tests on all or on some, and one list laid over another. Definitions only.
use Rattle.std.specs.Prelude.{ℕ, zero, suc, ◌-◌, Bool, true, false, ◌&&◌, ◌||◌, List, [], ◌∷◌, ◌++◌, length, take, drop}

module _ {A : Type 0} where
  -- what stands from the place `start` up to the place `end`, `end` itself not taken
  abbrev pub part : List A → ℕ → ℕ → List A
  part l start end = take (end - start) (drop start l)

  -- f 0, f 1, .. , n values in all
  unfoldable pub up_to : (ℕ → A) → ℕ → List A
  up_to f zero = []
  up_to f (suc n) = up_to f n ++ (f n ∷ [])

  -- the test holds of every element; of some element
  unfoldable pub every : (A → Bool) → List A → Bool
  every p [] = true
  every p (x ∷ xs) = p x && every p xs

  unfoldable pub any : (A → Bool) → List A → Bool
  any p [] = false
  any p (x ∷ xs) = p x || any p xs

  -- s laid over the front of l: as much of s as there is room for, and what stood behind it in l
  unfoldable pub over : List A → List A → List A
  over s l = take (length l) s ++ drop (length s) l
