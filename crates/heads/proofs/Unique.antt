-- Each public function's contract leaves one answer.
use mathlib.Core.Path.{◌≡◌, sym, ◌∙◌}
use contract.Lifetimes.{Lfts}
use borrow.Fn.Kinds.{Dens, res_t, ended_of}
use denote.Triple.Clauses.{AtExit}
use Rattle.heads.proofs.check_seal.Reads as check_seal
use Rattle.heads.proofs.check_seal.Kinds as check_seal_kinds
use Rattle.heads.proofs.is_marked.Reads as is_marked
use Rattle.heads.proofs.is_marked.Kinds as is_marked_kinds
use Rattle.heads.proofs.check_head.Reads as check_head
use Rattle.heads.proofs.check_head.Kinds as check_head_kinds

pub check_seal_unique : (κs : Lfts 1) (a : Dens κs check_seal_kinds.ps) (r r' : (res_t check_seal_kinds.r κs).Denot) (s s' : AtExit (ended_of 1 check_seal_kinds.ps check_seal_kinds.r) κs)
    → check_seal.Post κs a r s → check_seal.Post κs a r' s' → r ≡ r'
check_seal_unique κs a r r' s s' p q = p ∙ sym q

pub is_marked_unique : (κs : Lfts 1) (a : Dens κs is_marked_kinds.ps) (r r' : (res_t is_marked_kinds.r κs).Denot) (s s' : AtExit (ended_of 1 is_marked_kinds.ps is_marked_kinds.r) κs)
    → is_marked.Post κs a r s → is_marked.Post κs a r' s' → r ≡ r'
is_marked_unique κs a r r' s s' p q = p ∙ sym q

pub check_head_unique : (κs : Lfts 1) (a : Dens κs check_head_kinds.ps) (r r' : (res_t check_head_kinds.r κs).Denot) (s s' : AtExit (ended_of 1 check_head_kinds.ps check_head_kinds.r) κs)
    → check_head.Post κs a r s → check_head.Post κs a r' s' → r ≡ r'
check_head_unique κs a r r' s s' p q = p ∙ sym q
