-- What is left of the room is the room without the line, but for what the line has from the number on.
use Rattle.std.proofs.Common.{◌≡◌, ◌+◌, length, drop}
use Rattle.lines.specs.Line.{rest_of, line_of}
use Rattle.lines.proofs.room_behind.Given as goal

abbrev pub invariant-loop-n : goal.invariant-loop-n
invariant-loop-n l = l.left + length (line_of l.word l.numbers) ≡ l.room + length (rest_of (drop l.n-index l.numbers))
