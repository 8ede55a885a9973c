-- Each public function's contract leaves one answer and one content of what is lent.
use mathlib.Core.Path.{◌≡◌, sym, ◌∙◌}
use contract.Lifetimes.{Lfts}
use borrow.Fn.Kinds.{Dens, res_t, ended_of}
use denote.Triple.Clauses.{AtExit}
use Rattle.reader.proofs.load.Reads as load
use Rattle.reader.proofs.load.Kinds as load_kinds
use Rattle.reader.proofs.read.Reads as read
use Rattle.reader.proofs.read.Kinds as read_kinds

pub load_unique : (κs : Lfts 1) (a : Dens κs load_kinds.ps) (r r' : (res_t load_kinds.r κs).Denot) (s s' : AtExit (ended_of 1 load_kinds.ps load_kinds.r) κs)
    → load.Post κs a r s → load.Post κs a r' s' → r ≡ r'
load_unique κs a r r' s s' p q = p ∙ sym q

pub read_unique : (κs : Lfts 2) (a : Dens κs read_kinds.ps) (r r' : (res_t read_kinds.r κs).Denot) (s s' : AtExit (ended_of 2 read_kinds.ps read_kinds.r) κs)
    → read.Post κs a r s → read.Post κs a r' s' → (r ≡ r') × (s.1.1.0.now ≡ s'.1.1.0.now)
read_unique κs a r r' s s' p q = (p.0 ∙ sym q.0, p.1 ∙ sym q.1)
