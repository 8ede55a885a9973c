-- What is printed from here on is what is left of what is printed of the whole text.
use Rattle.std.proofs.Common.{length}
use Rattle.std.specs.Fn.{always_mut}
use Rattle.std.specs.List.{FoldsTo}
use Rattle.says.specs.Lines.{lines_of, Answers}
use Rattle.says.proofs.say_lines.Given as goal

abbrev pub invariant-loop-line : goal.invariant-loop-line
invariant-loop-line g l =
    (always_mut g.F.FnMut l.initial.answer → always_mut g.F.FnMut l.answer)
    × ((last : _) → FoldsTo (Answers g.W.Write.contents g.F.FnMut) (l.answer, l.to) (lines_of l.rest) last
    → FoldsTo (Answers g.W.Write.contents g.F.FnMut) (l.fn.answer, l.fn.to) (lines_of l.fn.text) last)

abbrev pub decreases-loop-line : goal.decreases-loop-line
decreases-loop-line g l = length l.rest
