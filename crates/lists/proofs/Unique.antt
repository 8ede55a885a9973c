-- Each public function's contract leaves one answer.
use mathlib.Core.Path.{◌≡◌, sym, ◌∙◌}
use contract.Lifetimes.{Lfts}
use borrow.Fn.Kinds.{Dens, res_t, ended_of}
use denote.Triple.Clauses.{AtExit}
use Rattle.lists.proofs.check_entries.Reads as check_entries
use Rattle.lists.proofs.check_entries.Kinds as check_entries_kinds
use Rattle.lists.proofs.check_list.Reads as check_list
use Rattle.lists.proofs.check_list.Kinds as check_list_kinds

pub check_entries_unique : (κs : Lfts 1) (a : Dens κs check_entries_kinds.ps) (r r' : (res_t check_entries_kinds.r κs).Denot) (s s' : AtExit (ended_of 1 check_entries_kinds.ps check_entries_kinds.r) κs)
    → check_entries.Post κs a r s → check_entries.Post κs a r' s' → r ≡ r'
check_entries_unique κs a r r' s s' p q = p ∙ sym q

pub check_list_unique : (κs : Lfts 0) (a : Dens κs check_list_kinds.ps) (r r' : (res_t check_list_kinds.r κs).Denot) (s s' : AtExit (ended_of 0 check_list_kinds.ps check_list_kinds.r) κs)
    → check_list.Post κs a r s → check_list.Post κs a r' s' → r ≡ r'
check_list_unique κs a r r' s s' p q = p ∙ sym q
