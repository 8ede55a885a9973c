-- Each public function's contract leaves one answer.
use mathlib.Core.Path.{◌≡◌, sym, ◌∙◌}
use contract.Lifetimes.{Lfts}
use borrow.Fn.Kinds.{Dens, res_t, ended_of}
use denote.Triple.Clauses.{AtExit}
use Rattle.records.proofs.record_at.Reads as record_at
use Rattle.records.proofs.record_at.Kinds as record_at_kinds
use Rattle.records.proofs.Records.part.Reads as part
use Rattle.records.proofs.Records.part.Kinds as part_kinds
use Rattle.records.proofs.Records.task.Reads as task
use Rattle.records.proofs.Records.task.Kinds as task_kinds
use Rattle.records.proofs.check_record.Reads as check_record
use Rattle.records.proofs.check_record.Kinds as check_record_kinds
use Rattle.records.proofs.are_alike.Reads as are_alike
use Rattle.records.proofs.are_alike.Kinds as are_alike_kinds

pub part_unique : (κs : Lfts 1) (a : Dens κs part_kinds.ps) (r r' : (res_t part_kinds.r κs).Denot) (s s' : AtExit (ended_of 1 part_kinds.ps part_kinds.r) κs)
    → part.Post κs a r s → part.Post κs a r' s' → r.now ≡ r'.now
part_unique κs a r r' s s' p q = p ∙ sym q

pub record_at_unique : (κs : Lfts 1) (a : Dens κs record_at_kinds.ps) (r r' : (res_t record_at_kinds.r κs).Denot) (s s' : AtExit (ended_of 1 record_at_kinds.ps record_at_kinds.r) κs)
    → record_at.Post κs a r s → record_at.Post κs a r' s' → r ≡ r'
record_at_unique κs a r r' s s' p q = p ∙ sym q

pub task_unique : (κs : Lfts 1) (a : Dens κs task_kinds.ps) (r r' : (res_t task_kinds.r κs).Denot) (s s' : AtExit (ended_of 1 task_kinds.ps task_kinds.r) κs)
    → task.Post κs a r s → task.Post κs a r' s' → r ≡ r'
task_unique κs a r r' s s' p q = p ∙ sym q

pub check_record_unique : (κs : Lfts 1) (a : Dens κs check_record_kinds.ps) (r r' : (res_t check_record_kinds.r κs).Denot) (s s' : AtExit (ended_of 1 check_record_kinds.ps check_record_kinds.r) κs)
    → check_record.Post κs a r s → check_record.Post κs a r' s' → r ≡ r'
check_record_unique κs a r r' s s' p q = p ∙ sym q

pub are_alike_unique : (κs : Lfts 2) (a : Dens κs are_alike_kinds.ps) (r r' : (res_t are_alike_kinds.r κs).Denot) (s s' : AtExit (ended_of 2 are_alike_kinds.ps are_alike_kinds.r) κs)
    → are_alike.Post κs a r s → are_alike.Post κs a r' s' → r ≡ r'
are_alike_unique κs a r r' s s' p q = p ∙ sym q
