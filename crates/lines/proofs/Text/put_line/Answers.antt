use Rattle.std.proofs.Common.{arith}
use Rattle.lines.specs.Line.{line_of}
use Rattle.lines.proofs.Line.{line_long_lem, room_more, rest_more, rest_end}
use Rattle.lines.proofs.Puts.{puts_length, puts_more}
use Rattle.lines.proofs.Text.put_line.Goals as goal

pub loop-n-init : goal.loop-n-init
unfolding line_of
loop-n-init c =
    let long = line_long_lem c.args.word.now c.args.numbers.now in
    let l = puts_length _ _ _ c.put.ensures (omega arith) in
    record { fits = omega arith; ends = λ end more. puts_more _ _ _ c.put.ensures _ _ (omega arith) more }

pub put_decimal-requires : goal.put_decimal-requires
put_decimal-requires c =
    let r = room_more c.args.numbers.now c.loop-n.n-index (omega arith) in
    let l = puts_length _ _ _ c.put-in-loop-n.ensures (omega arith) in
    omega arith

pub loop-n-preserved : goal.loop-n-preserved
loop-n-preserved c =
    let i = c.loop-n.n-index in
    let vs = c.args.numbers.now in
    let s = c.put-in-loop-n.ensures in
    let d = c.put_decimal.ensures in
    let r = room_more vs i (omega arith) in
    let k = puts_length _ _ _ s (omega arith) in
    let l = puts_length _ _ _ d (omega arith) in
    record {
      fits = omega arith;
      ends = λ end more.
          c.loop-n.invariant.ends end (rw (rest_more vs i (omega arith)) (puts_more _ _ _ (puts_more _ _ _ s _ _ (omega arith) d) end _ (omega arith) more));
    }

pub returns : goal.returns
returns c = c.loop-n.invariant.ends _ (rw (rest_end c.args.numbers.now c.loop-n.n-index (omega arith)) c.put-2.ensures)
