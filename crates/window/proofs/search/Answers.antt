use Rattle.std.proofs.Common.{arith, sym}
use Rattle.base.proofs.Search.{climb_at, climb_late}
use Rattle.term.proofs.Terms.{flat_rises}
use Rattle.window.proofs.search.Goals as goal

pub returns-then-d-t : goal.returns-then-d-t
returns-then-d-t c = sym (climb_at _ _ _ _ c.loop-t.invariant c.at-d.ensures c.if-d-t.true)

pub returns-then-limit-d : goal.returns-then-limit-d
returns-then-limit-d c =
    let d = c.args.demand in
    sym (climb_late _ _ _ _ (flat_rises d.own d.old.now d.new.now c.args.x) c.loop-t.invariant c.at-d.ensures (omega arith))
