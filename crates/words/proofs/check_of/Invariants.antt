-- `check_of` gives the check of a block. Invariant: the sum is that of the first k words, modulo 2^32.
use Rattle.block.specs.Block.{word_sum}
use mathlib.Core.Path.{◌≡◌}
use Prim.Native.Nat.{◌%◌}
use Rattle.words.proofs.check_of.Given as goal

abbrev pub invariant-loop-k : goal.invariant-loop-k
invariant-loop-k l = l.sum ≡ word_sum l.b l.k % 4294967296
