use Rattle.std.proofs.Common.{rules, refl}
use Rattle.above.specs.Roll.{old_of, new_of}
use Rattle.above.proofs.Above.{gathered_ready}
use Rattle.judge.proofs.Judging.completed.Goals as goal

pub windows-requires : goal.windows-requires
windows-requires c =
    let x = c.args.self in
    let n = c.gather-n.ensures.terms old_of (search rules) in
    let k = c.gather-k.ensures.terms new_of (search rules) in
    rw (n.1, k.1) (gathered_ready x.old.now x.new.now _ x.sound_old x.sound_new old_of (λ r. refl))
