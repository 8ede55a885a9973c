use Rattle.base.specs.Lists.{every}
use Rattle.std.specs.List.{list_all}
use Rattle.std.proofs.Common.{tests, rules}
use Rattle.std.proofs.lemmas.Iterator.{YieldsList-from_slice}
use Rattle.std.proofs.lemmas.Iterator.Search.{all_from_yields_List}
use lib.Dec.{ltb}
use mathlib.Core.Path.{◌≡◌, refl, ◌∙◌}
use mathlib.Core.Bool.{Bool}
use mathlib.Core.List.{List, [], ◌∷◌}
use Prim.Native.Nat.{ℕ}
use Rattle.numbers.proofs.all_below.Goals as goal

all_every : (p : ℕ → Bool) (l : List ℕ) → list_all p l ≡ every p l
unfolding every
all_every p [] = refl
all_every p (x ∷ xs) = rw (all_every p xs)

pub returns : goal.returns
returns c =
    let a = c.args in
    all_from_yields_List (λ n. ltb n a.bound) _ _ _ c.all.ensures.ran (YieldsList-from_slice a.numbers.now cc) (λ x b q k. search (rules, tests))
    ∙ all_every (λ n. ltb n a.bound) a.numbers.now
