use Rattle.std.proofs.Common.{ℕ, ◌≤◌}
use Rattle.window.specs.Phases.{asks}
use Rattle.window.specs.Behind.{Fine, Held}
use Rattle.window.proofs.Windows.backwards.Given as goal

abbrev pub invariant-loop-x : goal.invariant-loop-x
invariant-loop-x l = record {
  held : Held (asks l.self.demand) l.self.limit l.x l.s;
  fine : (y : ℕ) → l.x ≤ y → y ≤ l.self.limit → Fine (asks l.self.demand) l.self.limit l.s.best y;
}

abbrev pub decreases-loop-x : goal.decreases-loop-x
decreases-loop-x l = l.x
