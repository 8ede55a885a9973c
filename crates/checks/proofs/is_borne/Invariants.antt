-- `is_borne` says whether an earlier record bears what record k bears. Invariant: none of the first j does.
use Rattle.std.proofs.Common.{◌≡◌, false}
use Rattle.block.specs.Record.{task_of}
use Rattle.block.specs.Checks.{borne_in}
use Rattle.block.specs.Block.{record_part, tasks_in}
use Rattle.checks.proofs.is_borne.Given as goal

abbrev pub invariant-loop-j : goal.invariant-loop-j
invariant-loop-j l = borne_in (task_of (record_part l.records.block.now l.k)) (tasks_in l.records.block.now l.j) ≡ false
