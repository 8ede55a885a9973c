use Rattle.std.proofs.Common.{of_calls}
use Rattle.says.proofs.Lines.{answered}
use Rattle.says.proofs.say_lines.Goals as goal

pub loop-line-preserved : goal.loop-line-preserved
loop-line-preserved g c = (
  search of_calls,
  λ last h.
      c.loop-line.invariant.1 last
      (rw c.in-Some.ensures.0
      ((c.answer.new.self, c.write_all-in-Some.new.self), answered _ _ _ _ c.in-Some.line _ _ _ c.in_ok-write_all.ensures.bytes c.answer.ensures c.in_ok-answer.was c.in_ok-write_all-2.ensures.bytes, h)),
)
