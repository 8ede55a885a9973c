-- `all_zero` says whether every byte is zero. Invariant: the largest of the first i bytes is zero exactly if all of them are.
use Rattle.block.specs.Record.{all_zero}
use lib.Dec.{eqb}
use lib.ListN.{take}
use mathlib.Core.Path.{◌≡◌}
use Rattle.words.proofs.all_zero.Given as goal

abbrev pub invariant-loop-b : goal.invariant-loop-b
invariant-loop-b l = eqb l.most 0 ≡ all_zero (take l.b-index l.bytes)
