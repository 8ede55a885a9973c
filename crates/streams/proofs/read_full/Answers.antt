-- What a turn reads stands behind what came before, and the reader gave both.
use Rattle.std.proofs.Common.{◌≡◌, ℕ, ◌+◌, ◌-◌, ◌≤◌, List, ◌++◌, rules, length, length-take-le, take, refl, subst}
use Rattle.std.proofs.Math.Seq.{take-append-add, take-append-le}
use Rattle.std.specs.Io.KnownBytes.{Consumes}
use Rattle.std.proofs.KnownBytes.{Consumes-trans}
use borrow.Rule.Slice.PartMut.{put_mid, post_of}
use Rattle.streams.proofs.read_full.Goals as goal

-- the bytes read over a part from a on, behind those before it
put_behind : (a k n : ℕ) (xs ys : List ℕ) → a ≤ length xs → n ≤ length ys → take a xs ++ take n ys ≡ take (a + n) (put_mid a k xs ys)
put_behind a k n xs ys within fits =
    let behind = ys ++ post_of a k xs in
    rw (← take-append-le n ys (post_of a k xs) fits, ← take-append-add (take a xs) behind n, length-take-le a xs within) refl

pub loop-preserved : goal.loop-preserved
loop-preserved g c =
    let n = c.in_ok-n.n in
    let joined = put_behind c.loop.done (length c.loop.buf - c.loop.done) n c.loop.buf c.read.new.buf c.loop.invariant.within c.in_ok-n.ensures.bound.0 in
    record {
      within = search rules;
      turns = search rules;
      came = subst (Consumes _ _) joined (Consumes-trans _ _ _ _ _ c.loop.invariant.came c.in_ok-n.ensures.bytes.0);
    }
