use Rattle.std.proofs.Common.{◌≡◌, ◌++◌, map, take, drop}
use Rattle.std.specs.Prelude.{All}
use Rattle.term.specs.Terms.{Good}
use Rattle.above.specs.Roll.{rolled}
use Rattle.above.proofs.roll.Given as goal

abbrev pub invariant-loop-j : goal.invariant-loop-j
invariant-loop-j l = (l.rolls ≡ map rolled (take l.j l.tasks) ++ drop l.j l.initial.rolls) × All (λ r. Good r.old.jobs) (map rolled (take l.j l.tasks))
