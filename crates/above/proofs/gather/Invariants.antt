use Rattle.std.proofs.Common.{◌≡◌, ◌+◌, ◌≤◌, drop}
use Rattle.above.specs.declared.Rolled.{Rolled}
use Rattle.above.specs.Roll.{Gives, terms_from, gathered, count_above}
use Rattle.above.proofs.gather.Given as goal

abbrev pub invariant-loop-r : goal.invariant-loop-r
invariant-loop-r g l =
    (l.count + count_above l.p (drop l.r-index l.rolls) ≡ count_above l.p l.rolls)
    × (l.count ≤ l.r-index)
    × ((t : Rolled → g.row.T.Denot) → Gives (goal.F-post g l.term) t l.rolls → terms_from t l.p (drop l.r-index l.rolls) l.count l.terms ≡ gathered t l.p l.rolls l.initial.terms)
