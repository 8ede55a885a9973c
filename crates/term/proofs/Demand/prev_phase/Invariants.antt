use Rattle.std.proofs.Common.{◌≡◌, ◌≤◌, drop, max}
use Rattle.term.specs.Terms.{prev_phase}
use Rattle.term.proofs.Demand.prev_phase.Given as goal

abbrev pub invariant-loop-e : goal.invariant-loop-e
invariant-loop-e l = (prev_phase l.self.old.now l.m ≡ max l.prev (prev_phase (drop l.e-index l.self.old.now) l.m)) × (1 ≤ l.prev)
