use Rattle.std.proofs.Common.{◌≡◌, arith, get_or, cond, ◌∙◌, sym}
use Rattle.above.specs.Roll.{is_above, count_above, gathered}
use Rattle.above.proofs.Above.{nobody, byte_is, one_le, terms_more, terms_none, count_more, count_none, gathered_front}
use Rattle.above.proofs.gather.Goals as goal

pub loop-r-preserved : goal.loop-r-preserved
loop-r-preserved g c =
    let rs = c.args.rolls.now in
    let i = c.loop-r.r-index in
    let b : c.from-count.result ≡ cond (is_above c.args.p (get_or rs i nobody)) 1 0 = c.from-count.ensures ∙ byte_is _ in (
      omega (arith, count_more c.args.p rs i nobody c.loop-r-test.true),
      omega (arith, one_le (is_above c.args.p (get_or rs i nobody))),
      λ t e. rw (b, e i nobody c.loop-r-test.true _ c.term.ensures) (sym (terms_more t c.args.p rs i c.loop-r.count c.loop-r.terms nobody c.loop-r-test.true) ∙ c.loop-r.invariant.2 t e),
    )

pub returns-clause-terms : goal.returns-clause-terms
returns-clause-terms g c =
    λ t e.
    let rs = c.args.rolls.now in
    let l : c.loop-r.terms ≡ gathered t c.args.p rs c.args.terms.now = sym (terms_none t c.args.p rs c.loop-r.r-index c.loop-r.count c.loop-r.terms (omega arith)) ∙ c.loop-r.invariant.2 t e in
    let n : c.loop-r.count ≡ count_above c.args.p rs = omega (arith, count_none c.args.p rs c.loop-r.r-index (omega arith)) in
    (l, rw l (gathered_front t c.args.p rs c.args.terms.now c.loop-r.count n c.requires.room))
