-- Two outcomes that meet a contract on the same input are equal: verdicts, answers and reports.
use mathlib.Core.Path.{◌≡◌, sym, ◌∙◌}
use contract.Lifetimes.{Lfts}
use borrow.Fn.Kinds.{Dens, res_t, ended_of}
use denote.Triple.Clauses.{AtExit}
use Rattle.pair.proofs.settle.Reads as settle
use Rattle.pair.proofs.settle.Kinds as settle_kinds
use Rattle.pair.proofs.judged.Reads as judged
use Rattle.pair.proofs.judged.Kinds as judged_kinds
use Rattle.pair.proofs.analyse.Reads as analyse
use Rattle.pair.proofs.analyse.Kinds as analyse_kinds

pub settle_unique : (κs : Lfts 1) (a : Dens κs settle_kinds.ps) (r r' : (res_t settle_kinds.r κs).Denot) (s s' : AtExit (ended_of 1 settle_kinds.ps settle_kinds.r) κs)
    → settle.Post κs a r s → settle.Post κs a r' s' → (r ≡ r') × (s.1.1.0.now ≡ s'.1.1.0.now)
settle_unique κs a r r' s s' p q = (p.0 ∙ sym q.0, p.1 ∙ sym q.1)

pub judged_unique : (κs : Lfts 3) (a : Dens κs judged_kinds.ps) (r r' : (res_t judged_kinds.r κs).Denot) (s s' : AtExit (ended_of 3 judged_kinds.ps judged_kinds.r) κs)
    → judged.Post κs a r s → judged.Post κs a r' s' → (r ≡ r') × (s.1.1.0.now ≡ s'.1.1.0.now)
judged_unique κs a r r' s s' p q = (p.0 ∙ sym q.0, p.1 ∙ sym q.1)

pub analyse_unique : (κs : Lfts 3) (a : Dens κs analyse_kinds.ps) (r r' : (res_t analyse_kinds.r κs).Denot) (s s' : AtExit (ended_of 3 analyse_kinds.ps analyse_kinds.r) κs)
    → analyse.Post κs a r s → analyse.Post κs a r' s' → (r ≡ r') × (s.1.1.0.now ≡ s'.1.1.0.now)
analyse_unique κs a r r' s s' p q = (p.0 ∙ sym q.0, p.1 ∙ sym q.1)
