-- Each public function's contract leaves one answer.
use mathlib.Core.Path.{◌≡◌, sym, ◌∙◌}
use contract.Lifetimes.{Lfts}
use borrow.Fn.Kinds.{Dens, res_t, ended_of}
use denote.Triple.Clauses.{AtExit}
use Rattle.words.proofs.half_at.Reads as half_at
use Rattle.words.proofs.half_at.Kinds as half_at_kinds
use Rattle.words.proofs.word_at.Reads as word_at
use Rattle.words.proofs.word_at.Kinds as word_at_kinds
use Rattle.words.proofs.check_of.Reads as check_of
use Rattle.words.proofs.check_of.Kinds as check_of_kinds
use Rattle.words.proofs.all_zero.Reads as all_zero
use Rattle.words.proofs.all_zero.Kinds as all_zero_kinds

pub half_at_unique : (κs : Lfts 1) (a : Dens κs half_at_kinds.ps) (r r' : (res_t half_at_kinds.r κs).Denot) (s s' : AtExit (ended_of 1 half_at_kinds.ps half_at_kinds.r) κs)
    → half_at.Post κs a r s → half_at.Post κs a r' s' → r ≡ r'
half_at_unique κs a r r' s s' p q = p ∙ sym q

pub word_at_unique : (κs : Lfts 1) (a : Dens κs word_at_kinds.ps) (r r' : (res_t word_at_kinds.r κs).Denot) (s s' : AtExit (ended_of 1 word_at_kinds.ps word_at_kinds.r) κs)
    → word_at.Post κs a r s → word_at.Post κs a r' s' → r ≡ r'
word_at_unique κs a r r' s s' p q = p.0 ∙ sym q.0

pub check_of_unique : (κs : Lfts 1) (a : Dens κs check_of_kinds.ps) (r r' : (res_t check_of_kinds.r κs).Denot) (s s' : AtExit (ended_of 1 check_of_kinds.ps check_of_kinds.r) κs)
    → check_of.Post κs a r s → check_of.Post κs a r' s' → r ≡ r'
check_of_unique κs a r r' s s' p q = p ∙ sym q

pub all_zero_unique : (κs : Lfts 1) (a : Dens κs all_zero_kinds.ps) (r r' : (res_t all_zero_kinds.r κs).Denot) (s s' : AtExit (ended_of 1 all_zero_kinds.ps all_zero_kinds.r) κs)
    → all_zero.Post κs a r s → all_zero.Post κs a r' s' → r ≡ r'
all_zero_unique κs a r r' s s' p q = p ∙ sym q
