use Rattle.std.proofs.Common.{rules, refl}
use Rattle.above.specs.Roll.{whole_of, new_of}
use Rattle.above.proofs.Above.{gathered_ready}
use Rattle.judge.proofs.Judging.entering.Goals as goal

pub windows-windows-requires : goal.windows-windows-requires
windows-windows-requires c =
    let x = c.args.self in
    let n = c.gather-n.ensures.terms whole_of (search rules) in
    let k = c.gather-k.ensures.terms new_of (search rules) in
    rw (n.1, k.1) (gathered_ready x.new.now x.new.now _ x.sound_new x.sound_new whole_of (λ r. refl))
