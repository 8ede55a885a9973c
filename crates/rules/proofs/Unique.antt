-- Each public function's contract leaves one answer.
use Prim.Native.Nat.{ℕ, ◌<◌}
use mathlib.Core.Path.{◌≡◌, sym, ◌∙◌}
use contract.Lifetimes.{Lfts}
use borrow.Fn.Kinds.{Dens, res_t, ended_of}
use denote.RattleType.{RattleType}
use denote.Param.Laws.{Laws}
use denote.Triple.Clauses.{AtExit}
use mir.Syntax.{Dict}
use Rattle.block.specs.Answers.{Verdict}
use Rattle.rules.specs.contracts.first_refusal.F-Fn.{Ghosts}
use Rattle.rules.proofs.refused.Reads as refused
use Rattle.rules.proofs.refused.Kinds as refused_kinds
use Rattle.rules.proofs.refuse.Reads as refuse
use Rattle.rules.proofs.refuse.Kinds as refuse_kinds
use Rattle.rules.proofs.check_task.Reads as check_task
use Rattle.rules.proofs.check_task.Kinds as check_task_kinds
use Rattle.rules.proofs.first_refusal.Reads as first_refusal
use Rattle.rules.proofs.first_refusal.Kinds as first_refusal_kinds

pub refused_unique : (κs : Lfts 0) (a : Dens κs refused_kinds.ps) (r r' : (res_t refused_kinds.r κs).Denot) (s s' : AtExit (ended_of 0 refused_kinds.ps refused_kinds.r) κs)
    → refused.Post κs a r s → refused.Post κs a r' s' → r ≡ r'
refused_unique κs a r r' s s' p q = p ∙ sym q

pub refuse_unique : (κs : Lfts 0) (a : Dens κs refuse_kinds.ps) (r r' : (res_t refuse_kinds.r κs).Denot) (s s' : AtExit (ended_of 0 refuse_kinds.ps refuse_kinds.r) κs)
    → refuse.Post κs a r s → refuse.Post κs a r' s' → r ≡ r'
refuse_unique κs a r r' s s' p q = p ∙ sym q

pub check_task_unique : (κs : Lfts 0) (a : Dens κs check_task_kinds.ps) (r r' : (res_t check_task_kinds.r κs).Denot) (s s' : AtExit (ended_of 0 check_task_kinds.ps check_task_kinds.r) κs)
    → check_task.Post κs a r s → check_task.Post κs a r' s' → r ≡ r'
check_task_unique κs a r r' s s' p q = p ∙ sym q

-- where each check leaves one verdict
pub first_refusal_unique : (F : RattleType) (laws : Laws F) (calls : Ghosts F) (d d' d'' d''' : Dict) (κs : Lfts 1) (a : Dens κs (first_refusal_kinds.ps F laws)) (r r' : (res_t (first_refusal_kinds.r F laws) κs).Denot)
    (s s' : AtExit (ended_of 1 (first_refusal_kinds.ps F laws) (first_refusal_kinds.r F laws)) κs) (f : ℕ → Verdict) → ((k : ℕ) (v : Verdict) → k < a.0 → calls.post a.1.0 (k, tt) v → v ≡ f k)
    → first_refusal.Post F laws calls d d' d'' d''' κs a r s → first_refusal.Post F laws calls d d' d'' d''' κs a r' s' → r ≡ r'
first_refusal_unique F laws calls d d' d'' d''' κs a r r' s s' f is p q = p f is ∙ sym (q f is)
