-- `put_tasks` puts n tasks to the front of a list. Invariant: the list holds the first k tasks, and the rest is as it was.
use Rattle.std.proofs.Common.{◌≡◌, ◌*◌, ◌++◌, drop}
use Rattle.block.specs.Format.{list_size}
use Rattle.block.specs.Block.{tasks_in, list_of}
use Rattle.tasks.proofs.put_tasks.Given as goal

abbrev pub invariant-loop-k : goal.invariant-loop-k
invariant-loop-k l = l.list ≡ list_of (tasks_in l.records.block.now l.k) ++ drop (list_size * l.k) l.initial.list
