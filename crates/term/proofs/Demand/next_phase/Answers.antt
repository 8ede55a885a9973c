use Rattle.std.proofs.Common.{rules}
use Rattle.term.proofs.Terms.{next_is}
use Rattle.term.proofs.Demand.next_phase.Goals as goal

pub returns : goal.returns
returns c = rw next_is (search rules)
