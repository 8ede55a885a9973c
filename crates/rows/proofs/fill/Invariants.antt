-- `fill` puts the rows of a side in front. Invariant: the first j tasks are in time, and their rows stand there.
use Rattle.rows.specs.Fill.{row_by_rolls, Going}
use Rattle.rows.proofs.fill.Given as goal

abbrev pub invariant-loop-j : goal.invariant-loop-j
invariant-loop-j l = Going l.side (row_by_rolls l.old l.new) l.tasks l.j l.numbers
