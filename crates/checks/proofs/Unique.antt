-- Each public function's contract leaves one answer.
use Prim.Native.Nat.{ℕ}
use mathlib.Core.Path.{◌≡◌, sym, ◌∙◌}
use mathlib.Core.List.{List}
use contract.Lifetimes.{Lfts}
use borrow.Fn.Kinds.{Dens, res_t, ended_of}
use denote.Triple.Clauses.{AtExit}
use Rattle.std.specs.Prelude.{Result, Ok, Err, MatchResult}
use Rattle.block.specs.declared.Answer.{Answer}
use Rattle.block.specs.Answers.{Verdict}
use Rattle.records.specs.declared.Records.{Records}
use Rattle.checks.proofs.check_doubles.Reads as check_doubles
use Rattle.checks.proofs.check_doubles.Kinds as check_doubles_kinds
use Rattle.checks.proofs.records_of.Reads as records_of
use Rattle.checks.proofs.records_of.Kinds as records_of_kinds

pub check_doubles_unique : (κs : Lfts 1) (a : Dens κs check_doubles_kinds.ps) (r r' : (res_t check_doubles_kinds.r κs).Denot) (s s' : AtExit (ended_of 1 check_doubles_kinds.ps check_doubles_kinds.r) κs)
    → check_doubles.Post κs a r s → check_doubles.Post κs a r' s' → r ≡ r'
check_doubles_unique κs a r r' s s' p q = p ∙ sym q

-- the answer, or the bytes of the block and the number of records
pub seen : Result Records Answer → Result (List ℕ × ℕ) Answer
seen (Ok r) = Ok (r.block.now, r.count)
seen (Err a) = Err a

told : (v : Verdict) (b : List ℕ) (n : ℕ) (r r' : Result Records Answer)
    → MatchResult r (λ x. (v ≡ Ok tt) × (x.block.now ≡ b) × (x.count ≡ n)) (λ a. v ≡ Err a)
    → MatchResult r' (λ x. (v ≡ Ok tt) × (x.block.now ≡ b) × (x.count ≡ n)) (λ a. v ≡ Err a) → seen r ≡ seen r'
unfolding seen
told v b n (Ok x) (Ok y) p q = cc
told v b n (Ok x) (Err a) p q = cc
told v b n (Err a) (Ok x) p q = cc
told v b n (Err a) (Err a') p q = cc

pub records_of_unique : (κs : Lfts 1) (a : Dens κs records_of_kinds.ps) (r r' : (res_t records_of_kinds.r κs).Denot) (s s' : AtExit (ended_of 1 records_of_kinds.ps records_of_kinds.r) κs)
    → records_of.Post κs a r s → records_of.Post κs a r' s' → seen r ≡ seen r'
records_of_unique κs a r r' s s' p q = told _ _ _ r r' p q
