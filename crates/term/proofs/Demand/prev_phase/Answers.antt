use Rattle.std.proofs.Common.{arith}
use Rattle.term.proofs.Terms.{prev_more}
use Rattle.term.proofs.Demand.prev_phase.Goals as goal

pub loop-e-preserved : goal.loop-e-preserved
loop-e-preserved c = let e = prev_more c.args.self.old.now c.loop-e.e-index c.args.m _ _ c.prev_of.ensures c.loop-e-test.true in (omega arith, omega arith)
