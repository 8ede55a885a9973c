use mathlib.Core.Path.{sym, ap, ◌∙◌}
use Rattle.block.specs.Answers.{answer_of}
use Rattle.pair.proofs.Codes.{analysis_answer}
use Rattle.pair.proofs.analyse.Goals as goal

pub returns-in-Ok : goal.returns-in-Ok
returns-in-Ok c =
    (ap answer_of (sym c.in-Ok.is ∙ c.judged.ensures.0) ∙ analysis_answer c.args.old.now c.args.new.now c.args.report.now, c.judged.ensures.1)

pub returns-in-Err : goal.returns-in-Err
returns-in-Err c =
    (ap answer_of (sym c.in-Err.is ∙ c.judged.ensures.0) ∙ analysis_answer c.args.old.now c.args.new.now c.args.report.now, c.judged.ensures.1)
