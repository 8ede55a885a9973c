-- Each public function's contract leaves one answer and one content of what is lent.
use mathlib.Core.Path.{◌≡◌, sym, ◌∙◌}
use contract.Lifetimes.{Lfts}
use borrow.Fn.Kinds.{Dens, res_t, ended_of}
use denote.Triple.Clauses.{AtExit}
use Rattle.puts.proofs.put_record.Reads as put_record
use Rattle.puts.proofs.put_record.Kinds as put_record_kinds
use Rattle.puts.proofs.put_check.Reads as put_check
use Rattle.puts.proofs.put_check.Kinds as put_check_kinds
use Rattle.puts.proofs.empty_block.Reads as empty_block
use Rattle.puts.proofs.empty_block.Kinds as empty_block_kinds

pub put_record_unique : (κs : Lfts 1) (a : Dens κs put_record_kinds.ps) (r r' : (res_t put_record_kinds.r κs).Denot) (s s' : AtExit (ended_of 1 put_record_kinds.ps put_record_kinds.r) κs)
    → put_record.Post κs a r s → put_record.Post κs a r' s' → s.0.now ≡ s'.0.now
put_record_unique κs a r r' s s' p q = p ∙ sym q

pub put_check_unique : (κs : Lfts 1) (a : Dens κs put_check_kinds.ps) (r r' : (res_t put_check_kinds.r κs).Denot) (s s' : AtExit (ended_of 1 put_check_kinds.ps put_check_kinds.r) κs)
    → put_check.Post κs a r s → put_check.Post κs a r' s' → s.0.now ≡ s'.0.now
put_check_unique κs a r r' s s' p q = p ∙ sym q

pub empty_block_unique : (κs : Lfts 0) (a : Dens κs empty_block_kinds.ps) (r r' : (res_t empty_block_kinds.r κs).Denot) (s s' : AtExit (ended_of 0 empty_block_kinds.ps empty_block_kinds.r) κs)
    → empty_block.Post κs a r s → empty_block.Post κs a r' s' → r ≡ r'
empty_block_unique κs a r r' s s' p q = p ∙ sym q
