-- What is written so far: the text and the numbers before this one.
use Rattle.std.proofs.Common.{take}
use Rattle.std.specs.Io.KnownBytes.{Appends}
use Rattle.says.specs.Said.{said_numbers}
use Rattle.says.proofs.say_numbers.Given as goal

abbrev pub invariant-loop-number : goal.invariant-loop-number
invariant-loop-number g l =
    Appends (g.W.Write.contents l.fn.to) (g.W.Write.contents l.to) (said_numbers l.text (take l.number-index l.numbers))
