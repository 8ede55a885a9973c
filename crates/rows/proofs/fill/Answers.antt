use Prim.Native.Nat.{◌*◌}
use native.Mathlib.Omega.{arith}
use mathlib.Core.Path.{sym, ◌∙◌}
use Rattle.std.proofs.lemmas.Slice.{take-put_mid}
use Rattle.rows.proofs.Laid.{going_first, going_more, going_late, going_end}
use Rattle.rows.proofs.fill.Goals as goal

pub loop-j-init : goal.loop-j-init
loop-j-init c = going_first _ _ _ c.args.numbers.now

pub loop-j-preserved : goal.loop-j-preserved
loop-j-preserved c =
    let l = c.loop-j in
    going_more _ _ _ l.j l.numbers l.invariant c.loop-j-test.true c.in-Ok.r _ (sym c.in-Ok.is ∙ c.row_of.ensures.2)
    (rw c.copy_from_slice.ensures.after (take-put_mid (3 * l.j) _ l.numbers _ _ (omega arith) (omega (arith, l.auto.numbers, c.requires.room, c.loop-j-test.true))))

pub returns-in-Err : goal.returns-in-Err
returns-in-Err c = rw c.late_code.ensures (going_late _ _ _ c.loop-j.j c.loop-j.numbers c.loop-j.invariant c.loop-j-test.true c.in-Err.detail (sym c.in-Err.is ∙ c.row_of.ensures.2))

pub returns : goal.returns
returns c = going_end _ _ _ c.loop-j.j c.loop-j.numbers (omega (arith, c.loop-j-test.false, c.loop-j.auto.j-end)) c.loop-j.invariant
