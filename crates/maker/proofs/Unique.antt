-- Each public function's contract leaves one answer.
use mathlib.Core.Path.{◌≡◌, sym, ◌∙◌}
use contract.Lifetimes.{Lfts}
use borrow.Fn.Kinds.{Dens, res_t, ended_of}
use denote.Triple.Clauses.{AtExit}
use Rattle.maker.proofs.block_of.Reads as Block_of
use Rattle.maker.proofs.block_of.Kinds as block_of_kinds

pub block_of_unique : (κs : Lfts 1) (a : Dens κs block_of_kinds.ps) (r r' : (res_t block_of_kinds.r κs).Denot) (s s' : AtExit (ended_of 1 block_of_kinds.ps block_of_kinds.r) κs)
    → Block_of.Post κs a r s → Block_of.Post κs a r' s' → r ≡ r'
block_of_unique κs a r r' s s' p q = p ∙ sym q
