use Rattle.std.proofs.Common.{◌<◌, arith, length, refl}
use Rattle.std.proofs.lemmas.List.{map_more}
use Rattle.std.proofs.lemmas.List.Elements.{All-push}
use Rattle.block.specs.Checks.{no_task}
use Rattle.term.specs.Terms.{Good}
use Rattle.above.specs.Roll.{rolled}
use Rattle.above.proofs.Above.{over_more}
use Rattle.above.proofs.roll.Goals as goal

pub loop-j-preserved : goal.loop-j-preserved
loop-j-preserved c =
    let h : c.loop-j.j < length c.args.tasks.now = omega arith in (
      rw (c.loop-j.invariant.0, c.of.ensures.0) (over_more rolled c.args.tasks.now c.args.rolls.now c.loop-j.j no_task h (omega arith)),
      rw (map_more rolled c.args.tasks.now c.loop-j.j no_task h) (All-push (λ r. Good r.old.jobs) _ _ c.loop-j.invariant.1 (record { some = c.requires.0.periods c.loop-j.j no_task h; small = c.of.ensures.1; time = c.of.ensures.2; inverse = refl })),
    )
