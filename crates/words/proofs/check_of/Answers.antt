use Rattle.block.specs.Block.{word_sum}
use native.Mathlib.Numerals.{add-one}
use native.Mathlib.Omega.{arith}
use mathlib.Core.Path.{refl}
use Rattle.words.proofs.check_of.Goals as goal

pub loop-k-init : goal.loop-k-init
unfolding word_sum
loop-k-init c =
    refl

pub loop-k-preserved : goal.loop-k-preserved
unfolding word_sum
loop-k-preserved c =
    rw add-one (omega arith)
