-- The public function's contract leaves one answer and one content of the lent report.
use mathlib.Core.Path.{◌≡◌, sym, ◌∙◌}
use contract.Lifetimes.{Lfts}
use borrow.Fn.Kinds.{Dens, res_t, ended_of}
use denote.Triple.Clauses.{AtExit}
use Rattle.rows.proofs.rows_of.Reads as rows_of_lem
use Rattle.rows.proofs.rows_of.Kinds as rows_of_kinds

pub rows_of_unique : (κs : Lfts 1) (a : Dens κs rows_of_kinds.ps) (r r' : (res_t rows_of_kinds.r κs).Denot) (s s' : AtExit (ended_of 1 rows_of_kinds.ps rows_of_kinds.r) κs)
    → rows_of_lem.Post κs a r s → rows_of_lem.Post κs a r' s' → (r ≡ r') × (s.1.1.0.now ≡ s'.1.1.0.now)
rows_of_unique κs a r r' s s' p q =
    let e = p.0 ∙ sym q.0 in
    (e, rw e at p.1 ∙ sym q.1)
