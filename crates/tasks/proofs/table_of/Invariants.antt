-- `table_of` gives the table of n records. Invariant: the table has the first k tasks, empty places behind them, and count n.
use Rattle.std.proofs.Common.{◌≡◌, ◌-◌, ◌++◌, length, replicate}
use Rattle.block.specs.Format.{most_tasks}
use Rattle.block.specs.Checks.{no_task}
use Rattle.block.specs.Block.{tasks_in}
use Rattle.tasks.proofs.table_of.Given as goal

abbrev pub invariant-loop-k : goal.invariant-loop-k
invariant-loop-k l =
    (l.table.count ≡ l.records.count) × (length l.table.tasks ≡ most_tasks) × (l.table.tasks ≡ tasks_in l.records.block.now l.k ++ replicate (most_tasks - l.k) no_task)
