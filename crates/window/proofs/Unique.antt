-- Each public function's contract leaves one answer.
use mathlib.Core.Path.{◌≡◌, sym, ◌∙◌}
use contract.Lifetimes.{Lfts}
use borrow.Fn.Kinds.{Dens, res_t, ended_of}
use denote.Triple.Clauses.{AtExit}
use Rattle.window.proofs.kind_of.Reads as kind_of
use Rattle.window.proofs.kind_of.Kinds as kind_of_kinds
use Rattle.window.proofs.search.Reads as search
use Rattle.window.proofs.search.Kinds as search_kinds
use Rattle.window.proofs.Worst.take.Reads as take
use Rattle.window.proofs.Worst.take.Kinds as take_kinds
use Rattle.window.proofs.Windows.over_phases.Reads as over_phases
use Rattle.window.proofs.Windows.over_phases.Kinds as over_phases_kinds

pub kind_of_unique : (κs : Lfts 0) (a : Dens κs kind_of_kinds.ps) (r r' : (res_t kind_of_kinds.r κs).Denot) (s s' : AtExit (ended_of 0 kind_of_kinds.ps kind_of_kinds.r) κs)
    → kind_of.Post κs a r s → kind_of.Post κs a r' s' → r ≡ r'
kind_of_unique κs a r r' s s' p q = p ∙ sym q

pub search_unique : (κs : Lfts 1) (a : Dens κs search_kinds.ps) (r r' : (res_t search_kinds.r κs).Denot) (s s' : AtExit (ended_of 1 search_kinds.ps search_kinds.r) κs)
    → search.Post κs a r s → search.Post κs a r' s' → r ≡ r'
search_unique κs a r r' s s' p q = p ∙ sym q

pub take_unique : (κs : Lfts 0) (a : Dens κs take_kinds.ps) (r r' : (res_t take_kinds.r κs).Denot) (s s' : AtExit (ended_of 0 take_kinds.ps take_kinds.r) κs)
    → take.Post κs a r s → take.Post κs a r' s' → r ≡ r'
take_unique κs a r r' s s' p q = p ∙ sym q

pub over_phases_unique : (κs : Lfts 1) (a : Dens κs over_phases_kinds.ps) (r r' : (res_t over_phases_kinds.r κs).Denot) (s s' : AtExit (ended_of 1 over_phases_kinds.ps over_phases_kinds.r) κs)
    → over_phases.Post κs a r s → over_phases.Post κs a r' s' → r ≡ r'
over_phases_unique κs a r r' s s' p q = p ∙ sym q
