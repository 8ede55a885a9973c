use Rattle.std.proofs.Common.{refl, ap, ◌∙◌}
use mathlib.Core.List.{flat_map}
use Rattle.base.specs.Lists.{up_to}
use Rattle.block.specs.Record.{task_of, numbers_of}
use Rattle.block.specs.Block.{record_part}
use Rattle.numbers.proofs.Numbers.{list_more}
use Rattle.tasks.proofs.put_tasks.Goals as goal

pub loop-k-init : goal.loop-k-init
unfolding up_to flat_map
loop-k-init c = refl

pub loop-k-preserved : goal.loop-k-preserved
loop-k-preserved c =
    let l = c.loop-k in
    list_more (λ k. task_of (record_part c.args.records.block.now k)) l.list c.args.list.now _ l.k l.invariant (c.put_numbers.ensures ∙ ap numbers_of c.task.ensures)
