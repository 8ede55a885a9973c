use Rattle.std.proofs.Common.{rules, ◌≡◌}
use Rattle.above.specs.Roll.{left_above}
use Rattle.above.proofs.Above.{left_small}
use Rattle.above.proofs.left.Goals as goal

pub returns : goal.returns
returns c =
    let e : c.sum.result ≡ left_above c.args.p c.args.rolls.now = search rules in
    (e, rw e (left_small c.args.p c.args.rolls.now c.requires))
