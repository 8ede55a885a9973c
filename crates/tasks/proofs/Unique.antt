-- Each public function's contract leaves one answer and one content of what is lent.
use mathlib.Core.Path.{◌≡◌, sym, ◌∙◌}
use contract.Lifetimes.{Lfts}
use borrow.Fn.Kinds.{Dens, res_t, ended_of}
use denote.Triple.Clauses.{AtExit}
use Rattle.tasks.proofs.no_tasks.Reads as no_tasks
use Rattle.tasks.proofs.no_tasks.Kinds as no_tasks_kinds
use Rattle.tasks.proofs.table_of.Reads as table_of
use Rattle.tasks.proofs.table_of.Kinds as table_of_kinds
use Rattle.tasks.proofs.put_tasks.Reads as put_tasks
use Rattle.tasks.proofs.put_tasks.Kinds as put_tasks_kinds

pub no_tasks_unique : (κs : Lfts 0) (a : Dens κs no_tasks_kinds.ps) (r r' : (res_t no_tasks_kinds.r κs).Denot) (s s' : AtExit (ended_of 0 no_tasks_kinds.ps no_tasks_kinds.r) κs)
    → no_tasks.Post κs a r s → no_tasks.Post κs a r' s' → r ≡ r'
no_tasks_unique κs a r r' s s' p q = p ∙ sym q

pub table_of_unique : (κs : Lfts 1) (a : Dens κs table_of_kinds.ps) (r r' : (res_t table_of_kinds.r κs).Denot) (s s' : AtExit (ended_of 1 table_of_kinds.ps table_of_kinds.r) κs)
    → table_of.Post κs a r s → table_of.Post κs a r' s' → r ≡ r'
table_of_unique κs a r r' s s' p q = p ∙ sym q

pub put_tasks_unique : (κs : Lfts 2) (a : Dens κs put_tasks_kinds.ps) (r r' : (res_t put_tasks_kinds.r κs).Denot) (s s' : AtExit (ended_of 2 put_tasks_kinds.ps put_tasks_kinds.r) κs)
    → put_tasks.Post κs a r s → put_tasks.Post κs a r' s' → s.1.0.now ≡ s'.1.0.now
put_tasks_unique κs a r r' s s' p q = p ∙ sym q
