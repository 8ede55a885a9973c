use Rattle.std.proofs.Common.{◌-◌, ◌+◌}
use Rattle.window.specs.Phases.{asks, Kept}
use Rattle.window.proofs.Windows.forwards.Given as goal

abbrev pub invariant-loop-x : goal.invariant-loop-x
invariant-loop-x l = Kept (asks l.self.demand) l.self.demand.own l.self.limit l.x l.s

abbrev pub decreases-loop-x : goal.decreases-loop-x
decreases-loop-x l = l.self.limit + 1 - l.x
