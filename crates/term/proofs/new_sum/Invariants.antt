use Rattle.std.proofs.Common.{◌≡◌, ◌*◌, ◌≤◌, take}
use Rattle.term.specs.Terms.{new_sum}
use Rattle.term.proofs.new_sum.Given as goal

abbrev pub invariant-loop-e : goal.invariant-loop-e
invariant-loop-e l = (l.sum ≡ new_sum (take l.e-index l.new) l.u) × (l.sum ≤ 34359738368 * l.e-index)
