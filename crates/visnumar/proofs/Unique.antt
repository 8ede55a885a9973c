-- Each exported function's contract leaves one answer and one content of the lent memory.
use mathlib.Core.Path.{◌≡◌, sym, ◌∙◌}
use contract.Lifetimes.{Lfts}
use borrow.Fn.Kinds.{Dens, res_t, ended_of}
use denote.Triple.Clauses.{AtExit}
use Rattle.visnumar.proofs.visnumar_read.Reads as visnumar_read
use Rattle.visnumar.proofs.visnumar_read.Kinds as visnumar_read_kinds
use Rattle.visnumar.proofs.visnumar_write.Reads as visnumar_write
use Rattle.visnumar.proofs.visnumar_write.Kinds as visnumar_write_kinds
use Rattle.visnumar.proofs.visnumar_analyse.Reads as visnumar_analyse
use Rattle.visnumar.proofs.visnumar_analyse.Kinds as visnumar_analyse_kinds

pub visnumar_read_unique : (κs : Lfts 2) (a : Dens κs visnumar_read_kinds.ps) (r r' : (res_t visnumar_read_kinds.r κs).Denot) (s s' : AtExit (ended_of 2 visnumar_read_kinds.ps visnumar_read_kinds.r) κs)
    → visnumar_read.Post κs a r s → visnumar_read.Post κs a r' s' → (r ≡ r') × (s.1.1.0.now ≡ s'.1.1.0.now)
visnumar_read_unique κs a r r' s s' p q = (p.0 ∙ sym q.0, p.1 ∙ sym q.1)

pub visnumar_write_unique : (κs : Lfts 2) (a : Dens κs visnumar_write_kinds.ps) (r r' : (res_t visnumar_write_kinds.r κs).Denot) (s s' : AtExit (ended_of 2 visnumar_write_kinds.ps visnumar_write_kinds.r) κs)
    → visnumar_write.Post κs a r s → visnumar_write.Post κs a r' s' → (r ≡ r') × (s.1.1.1.0.now ≡ s'.1.1.1.0.now)
visnumar_write_unique κs a r r' s s' p q = (p.0 ∙ sym q.0, p.1 ∙ sym q.1)

pub visnumar_analyse_unique : (κs : Lfts 3) (a : Dens κs visnumar_analyse_kinds.ps) (r r' : (res_t visnumar_analyse_kinds.r κs).Denot) (s s' : AtExit (ended_of 3 visnumar_analyse_kinds.ps visnumar_analyse_kinds.r) κs)
    → visnumar_analyse.Post κs a r s → visnumar_analyse.Post κs a r' s' → (r ≡ r') × (s.1.1.0.now ≡ s'.1.1.0.now)
visnumar_analyse_unique κs a r r' s s' p q = (p.0 ∙ sym q.0, p.1 ∙ sym q.1)
