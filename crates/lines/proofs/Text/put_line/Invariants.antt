-- What stands from the number on fits behind the text, and with it the line is put.
use Rattle.std.proofs.Common.{◌+◌, ◌≤◌, length, drop}
use Rattle.lines.specs.declared.Text.{Text}
use Rattle.lines.specs.Line.{rest_of, line_of}
use Rattle.lines.specs.Puts.{Puts}
use Rattle.lines.proofs.Text.put_line.Given as goal

abbrev pub invariant-loop-n : goal.invariant-loop-n
invariant-loop-n l = record {
  fits : l.self.at + length (rest_of (drop l.n-index l.numbers)) ≤ length l.self.buf.now;
  ends : (end : Text) → Puts l.self end (rest_of (drop l.n-index l.numbers)) → Puts l.fn.self end (line_of l.word l.numbers);
}
