-- `block_of` gives the block of a list's tasks. Invariant: the block has its head, the first k records, and zeros behind them.
use Rattle.std.proofs.Common.{◌≡◌, ◌/◌, length}
use Rattle.block.specs.Format.{block_size, list_size}
use Rattle.block.specs.Record.{task_from}
use Rattle.block.specs.Block.{numbers_part, head_of}
use Rattle.layout.proofs.Written.{grown}
use Rattle.maker.proofs.block_of.Given as goal

abbrev pub invariant-loop-k : goal.invariant-loop-k
invariant-loop-k l =
    (length l.block ≡ block_size) × (l.block ≡ grown (head_of l.side l.mode (length l.list / list_size)) (λ k. task_from (numbers_part l.list k)) l.k)
