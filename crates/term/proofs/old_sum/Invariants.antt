use Rattle.std.proofs.Common.{◌≡◌, ◌*◌, ◌≤◌, take}
use Rattle.term.specs.Terms.{old_sum}
use Rattle.term.proofs.old_sum.Given as goal

abbrev pub invariant-loop-e : goal.invariant-loop-e
invariant-loop-e l = (l.sum ≡ old_sum (take l.e-index l.old) l.m) × (l.sum ≤ 34359738368 * l.e-index)
