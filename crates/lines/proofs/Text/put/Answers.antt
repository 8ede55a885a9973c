-- The bytes copied over the part of their own length are put from the place on.
use Rattle.std.proofs.Common.{refl, ap, ◌∙◌, ◌+◌, ◌-◌, length}
use borrow.Rule.Slice.PartMut.{put_mid}
use Rattle.lines.proofs.Put.{put_part}
use Rattle.lines.proofs.Text.put.Goals as goal

pub returns : goal.returns
returns c =
    let t = c.args.self.now in
    let n = t.at + length c.args.bytes.now - t.at in
    record { same_buf = refl; at_after = refl; buf_after = ap (λ l. put_mid t.at n t.buf.now l) c.copy_from_slice.ensures.after ∙ put_part t.buf.now t.at c.args.bytes.now }
