-- Each public function's contract leaves one answer.
use mathlib.Core.Path.{◌≡◌, sym, ◌∙◌}
use contract.Lifetimes.{Lfts}
use borrow.Fn.Kinds.{Dens, res_t, ended_of}
use denote.Triple.Clauses.{AtExit}
use Rattle.term.proofs.Demand.at.Reads as at
use Rattle.term.proofs.Demand.at.Kinds as at_kinds
use Rattle.term.proofs.Demand.next_phase.Reads as next_phase
use Rattle.term.proofs.Demand.next_phase.Kinds as next_phase_kinds
use Rattle.term.proofs.Demand.prev_phase.Reads as prev_phase
use Rattle.term.proofs.Demand.prev_phase.Kinds as prev_phase_kinds

pub at_unique : (κs : Lfts 1) (a : Dens κs at_kinds.ps) (r r' : (res_t at_kinds.r κs).Denot) (s s' : AtExit (ended_of 1 at_kinds.ps at_kinds.r) κs)
    → at.Post κs a r s → at.Post κs a r' s' → r ≡ r'
at_unique κs a r r' s s' p q = p ∙ sym q

pub next_phase_unique : (κs : Lfts 1) (a : Dens κs next_phase_kinds.ps) (r r' : (res_t next_phase_kinds.r κs).Denot) (s s' : AtExit (ended_of 1 next_phase_kinds.ps next_phase_kinds.r) κs)
    → next_phase.Post κs a r s → next_phase.Post κs a r' s' → r ≡ r'
next_phase_unique κs a r r' s s' p q = p ∙ sym q

pub prev_phase_unique : (κs : Lfts 1) (a : Dens κs prev_phase_kinds.ps) (r r' : (res_t prev_phase_kinds.r κs).Denot) (s s' : AtExit (ended_of 1 prev_phase_kinds.ps prev_phase_kinds.r) κs)
    → prev_phase.Post κs a r s → prev_phase.Post κs a r' s' → r ≡ r'
prev_phase_unique κs a r r' s s' p q = p ∙ sym q
