-- `good_list` gives a good list. Invariant: the list holds the first k tasks, and zeros behind them.
use Rattle.std.proofs.Common.{◌≡◌, ◌++◌, ◌*◌, drop}
use Rattle.base.specs.Lists.{up_to}
use Rattle.block.specs.Block.{list_of}
use Rattle.block.specs.Format.{list_size}
use Rattle.tries.specs.Tries.{good_task}
use Rattle.tries.proofs.good_list.Given as goal

abbrev pub invariant-loop-k : goal.invariant-loop-k
invariant-loop-k l = l.list ≡ list_of (up_to (good_task l.side) l.k) ++ drop (list_size * l.k) l.initial.list
