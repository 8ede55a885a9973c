-- The public function's contract leaves one answer and one content of the lent room.
use mathlib.Core.Path.{◌≡◌, sym, ap, ◌∙◌}
use contract.Lifetimes.{Lfts}
use borrow.Fn.Kinds.{Dens, res_t, ended_of}
use denote.Triple.Clauses.{AtExit}
use mathlib.Core.List.{List}
use Rattle.term.specs.declared.Old.{Old}
use Rattle.term.specs.declared.New.{New}
use Rattle.judge.specs.declared.Room.{Room}
use Rattle.judge.proofs.Judging.row_of.Reads as row_of
use Rattle.judge.proofs.Judging.row_of.Kinds as row_of_kinds

same_room : (l m : Room) → l.before ≡ m.before → l.after ≡ m.after → l ≡ m
same_room l m e f =
    let first : Room → List Old → Room = λ x b. record { before = b; after = x.after } in
    let second : Room → List New → Room = λ x a. record { before = x.before; after = a } in
    ap (first l) e ∙ ap (second m) f

pub row_of_unique : (κs : Lfts 2) (a : Dens κs row_of_kinds.ps) (r r' : (res_t row_of_kinds.r κs).Denot) (s s' : AtExit (ended_of 2 row_of_kinds.ps row_of_kinds.r) κs)
    → row_of.Post κs a r s → row_of.Post κs a r' s' → (r ≡ r') × (s.1.0.now ≡ s'.1.0.now)
row_of_unique κs a r r' s s' p q =
    (p.2 ∙ sym q.2, same_room _ _ (p.0 ∙ sym q.0) (p.1 ∙ sym q.1))
