-- Answers, and verdicts: a check either passes or gives the answer that refuses. Definitions only.
use Rattle.std.specs.Prelude.{ℕ, min, Bool, true, false, List, [], ◌∷◌, Result, Ok, Err}
use Rattle.block.specs.declared.Answer.{Answer}
use Rattle.block.specs.declared.Code.{Code}
use Rattle.block.specs.declared.Code.TheVariants.{Done, BlockLength, Check, Mark, Head, Rule, Double, UnusedRoom, Short, OldLate, NewLate, ListLength}

-- the paper's number of each code
abbrev pub number_of : Code → ℕ
number_of Done = 0
number_of BlockLength = 1
number_of Check = 2
number_of Mark = 3
number_of Head = 4
number_of Rule = 5
number_of Double = 6
number_of UnusedRoom = 7
number_of Short = 8
number_of OldLate = 9
number_of NewLate = 10
number_of ListLength = 11

-- what a check says: nothing is wrong, or the answer that refuses
abbrev pub Verdict : Type 0
Verdict = Result (Unit {0}) Answer

-- code, side, record, detail
abbrev pub answer : ℕ → ℕ → ℕ → ℕ → Answer
answer c s r d = record { code = c; side = s; «record» = r; detail = d }

-- done, where nothing else is said
abbrev pub done : Answer
done = answer 0 2 0 0

-- a refusal: the code, the side (2 where it is neither 0 nor 1), the record
abbrev pub refusal : ℕ → ℕ → ℕ → Answer
refusal code side place = answer code (min side 2) place 0

-- a check refuses where its test is true
abbrev pub refuse : Bool → Answer → Verdict
refuse true a = Err a
refuse false a = Ok tt

-- of an ordered list of checks the first that refuses decides
unfoldable pub first_of : List Verdict → Verdict
first_of [] = Ok tt
first_of (Err a ∷ vs) = Err a
first_of (Ok u ∷ vs) = first_of vs

-- a verdict as the paper's four numbers
abbrev pub answer_of : Verdict → Answer
answer_of (Ok u) = done
answer_of (Err a) = a
