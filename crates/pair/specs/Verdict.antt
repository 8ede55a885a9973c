-- An answer as a verdict. Definitions only, for the contract of an internal function.
use Rattle.std.specs.Prelude.{cond, eqb, Ok, Err}
use Rattle.block.specs.declared.Answer.{Answer}
use Rattle.block.specs.Answers.{Verdict}

-- code 0 refuses nothing, every other answer is the refusal itself
abbrev pub verdict_of : Answer → Verdict
verdict_of a = cond (eqb a.code 0) (Ok tt) (Err a)
