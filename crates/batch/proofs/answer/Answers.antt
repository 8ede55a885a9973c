-- The text and the dot behind it fill the front of the room, as one.
use Rattle.std.proofs.Common.{◌≡◌, ℕ, ◌+◌, ◌-◌, ◌≤◌, List, ◌++◌, length, take, length-append, arith, subst, ◌∙◌, OnOk}
use borrow.Rule.Slice.PartMut.{put_mid}
use Rattle.std.specs.Io.KnownBytes.{Appends}
use Rattle.lines.specs.Put.{put, next, written}
use Rattle.lines.proofs.Put.{next_fits, written_fits, put_front, put_part, put_more}
use Rattle.render.specs.Printed.{printed}
use Rattle.batch.specs.Dot.{dot_line}
use Rattle.batch.proofs.answer.Goals as goal

-- s written at the front of b, and u laid over what stands behind it
both : (b s u v mid : List ℕ) (end : ℕ) → length s + length u ≤ length b → end ≡ next b 0 s → mid ≡ written b 0 s → v ≡ u
    → take (end + length u) (put_mid end (end + length u - end) mid v) ≡ s ++ u
both b s u v mid end room e m f =
    let fits : 0 + length s ≤ length b = omega arith in
    let e' : end ≡ 0 + length s = e ∙ next_fits b 0 s fits in
    let m' : mid ≡ put b 0 s = m ∙ written_fits b 0 s fits in
    rw (f, put_part mid end u, m', e', put_more b 0 s u (omega arith)) (put_front b 0 (s ++ u) (0 + length s + length u) (omega arith) (simp length-append (omega arith)))

pub returns : goal.returns
returns g c =
    subst (λ (l : List ℕ). OnOk c.write_all.result (Appends (g.W.Write.contents c.args.to.now) (g.W.Write.contents c.write_all.new.self) l))
    (both _ (printed c.args.input.now) dot_line _ _ _ (omega (arith, c.render-end.ensures.bounded)) c.render-end.ensures.value c.render-end.ensures.out_after c.copy_from_slice.ensures.after)
    c.write_all.ensures.bytes
