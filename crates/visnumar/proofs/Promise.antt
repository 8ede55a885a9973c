-- Whatever meets the contract of visnumar_analyse with code 0 has the promise about every run, for the blocks it was lent and the report that it left.
use mathlib.Core.Path.{◌≡◌, sym, ap, ◌∙◌}
use contract.Lifetimes.{Lfts}
use borrow.Fn.Kinds.{Dens, res_t, ended_of}
use denote.Triple.Clauses.{AtExit}
use Rattle.block.specs.declared.Answer.{Answer}
use Rattle.run.specs.Promise.{tasks_held, count, task, first_number, Bounds}
use Rattle.run.proofs.Result.Promise.{promise}
use Rattle.visnumar.proofs.visnumar_analyse.Reads as visnumar_analyse
use Rattle.visnumar.proofs.visnumar_analyse.Kinds as visnumar_analyse_kinds

pub visnumar_analyse_promise : (κs : Lfts 3) (a : Dens κs visnumar_analyse_kinds.ps) (r : (res_t visnumar_analyse_kinds.r κs).Denot) (s : AtExit (ended_of 3 visnumar_analyse_kinds.ps visnumar_analyse_kinds.r) κs)
    → visnumar_analyse.Post κs a r s → r.code ≡ 0
    → Bounds (count (tasks_held a.0.now a.1.0.now)) (task (tasks_held a.0.now a.1.0.now)) (first_number s.1.1.0.now)
visnumar_analyse_promise κs a r s p e =
    rw p.1 (promise a.0.now a.1.0.now a.1.1.0.now (ap (λ (x : Answer). x.code) (sym p.0) ∙ e))
