use Rattle.std.proofs.Common.{ℕ, arith}
use lib.ListN.{length-set}
use Rattle.block.proofs.Tables.{table_more, table_is}
use Rattle.block.specs.declared.Task.{Task}
use Rattle.block.specs.Record.{task_of}
use Rattle.block.specs.Block.{record_part}
use Rattle.tasks.proofs.table_of.Goals as goal

pub loop-k-preserved : goal.loop-k-preserved
loop-k-preserved c =
    let l = c.loop-k in
    let f : ℕ → Task = λ k. task_of (record_part c.args.records.block.now k) in
    (l.invariant.0, simp length-set l.invariant.1, table_more f l.table.tasks _ l.k (omega arith) l.invariant.2 c.task.ensures)

pub returns : goal.returns
returns c =
    let l = c.loop-k in
    let f : ℕ → Task = λ k. task_of (record_part c.args.records.block.now k) in
    table_is f l.table c.args.records.count l.k (omega arith) l.invariant.0 l.invariant.2
