use Rattle.std.proofs.Common.{refl, ap, ◌∙◌, arith}
use mathlib.Core.List.{flat_map}
use Rattle.base.specs.Lists.{up_to}
use Rattle.block.specs.Record.{numbers_of}
use Rattle.numbers.proofs.Numbers.{list_more}
use Rattle.tries.specs.Tries.{good_tasks, good_task}
use Rattle.tries.proofs.Tries.{list_whole}
use Rattle.tries.proofs.good_list.Goals as goal

pub loop-k-init : goal.loop-k-init
unfolding up_to flat_map
loop-k-init c = refl

pub loop-k-preserved : goal.loop-k-preserved
loop-k-preserved c =
    rw c.from-at.ensures
    (list_more (good_task c.args.side) c.loop-k.list _ _ c.loop-k.k c.loop-k.invariant (c.put_numbers.ensures ∙ ap numbers_of c.good_task.ensures))

pub returns : goal.returns
returns c = list_whole (good_task c.args.side) c.loop-k.list _ c.loop-k.k good_tasks (omega arith) (omega arith) c.loop-k.invariant
