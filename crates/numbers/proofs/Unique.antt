-- Each public function's contract leaves one answer and one content of what is lent.
use mathlib.Core.Path.{◌≡◌, sym, ◌∙◌}
use contract.Lifetimes.{Lfts}
use borrow.Fn.Kinds.{Dens, res_t, ended_of}
use denote.Triple.Clauses.{AtExit}
use Rattle.numbers.proofs.are_fit.Reads as are_fit
use Rattle.numbers.proofs.are_fit.Kinds as are_fit_kinds
use Rattle.numbers.proofs.task_from.Reads as task_from
use Rattle.numbers.proofs.task_from.Kinds as task_from_kinds
use Rattle.numbers.proofs.put_numbers.Reads as put_numbers
use Rattle.numbers.proofs.put_numbers.Kinds as put_numbers_kinds

pub are_fit_unique : (κs : Lfts 1) (a : Dens κs are_fit_kinds.ps) (r r' : (res_t are_fit_kinds.r κs).Denot) (s s' : AtExit (ended_of 1 are_fit_kinds.ps are_fit_kinds.r) κs)
    → are_fit.Post κs a r s → are_fit.Post κs a r' s' → r ≡ r'
are_fit_unique κs a r r' s s' p q = p ∙ sym q

pub task_from_unique : (κs : Lfts 1) (a : Dens κs task_from_kinds.ps) (r r' : (res_t task_from_kinds.r κs).Denot) (s s' : AtExit (ended_of 1 task_from_kinds.ps task_from_kinds.r) κs)
    → task_from.Post κs a r s → task_from.Post κs a r' s' → r ≡ r'
task_from_unique κs a r r' s s' p q = p ∙ sym q

pub put_numbers_unique : (κs : Lfts 1) (a : Dens κs put_numbers_kinds.ps) (r r' : (res_t put_numbers_kinds.r κs).Denot) (s s' : AtExit (ended_of 1 put_numbers_kinds.ps put_numbers_kinds.r) κs)
    → put_numbers.Post κs a r s → put_numbers.Post κs a r' s' → s.0.now ≡ s'.0.now
put_numbers_unique κs a r r' s s' p q = p ∙ sym q
