use Rattle.std.proofs.Common.{◌-◌}
use Rattle.base.specs.Search.{Climbs}
use Rattle.window.specs.Phases.{asks}
use Rattle.window.proofs.search.Given as goal

abbrev pub invariant-loop-t : goal.invariant-loop-t
invariant-loop-t l = Climbs (asks l.demand l.x) l.limit l.t

abbrev pub decreases-loop-t : goal.decreases-loop-t
decreases-loop-t l = l.limit - l.t
