-- Each public function's contract leaves one answer.
use mathlib.Core.Path.{◌≡◌, sym, ◌∙◌}
use contract.Lifetimes.{Lfts}
use borrow.Fn.Kinds.{Dens, res_t, ended_of}
use denote.Triple.Clauses.{AtExit}
use Rattle.row.proofs.completed_row.Reads as completed_row
use Rattle.row.proofs.completed_row.Kinds as completed_row_kinds
use Rattle.row.proofs.aborted_row.Reads as aborted_row
use Rattle.row.proofs.aborted_row.Kinds as aborted_row_kinds
use Rattle.row.proofs.new_row.Reads as new_row
use Rattle.row.proofs.new_row.Kinds as new_row_kinds

pub completed_row_unique : (κs : Lfts 1) (a : Dens κs completed_row_kinds.ps) (r r' : (res_t completed_row_kinds.r κs).Denot) (s s' : AtExit (ended_of 1 completed_row_kinds.ps completed_row_kinds.r) κs)
    → completed_row.Post κs a r s → completed_row.Post κs a r' s' → r ≡ r'
completed_row_unique κs a r r' s s' p q = p ∙ sym q

pub aborted_row_unique : (κs : Lfts 1) (a : Dens κs aborted_row_kinds.ps) (r r' : (res_t aborted_row_kinds.r κs).Denot) (s s' : AtExit (ended_of 1 aborted_row_kinds.ps aborted_row_kinds.r) κs)
    → aborted_row.Post κs a r s → aborted_row.Post κs a r' s' → r ≡ r'
aborted_row_unique κs a r r' s s' p q = p ∙ sym q

pub new_row_unique : (κs : Lfts 1) (a : Dens κs new_row_kinds.ps) (r r' : (res_t new_row_kinds.r κs).Denot) (s s' : AtExit (ended_of 1 new_row_kinds.ps new_row_kinds.r) κs)
    → new_row.Post κs a r s → new_row.Post κs a r' s' → r ≡ r'
new_row_unique κs a r r' s s' p q = p ∙ sym q
