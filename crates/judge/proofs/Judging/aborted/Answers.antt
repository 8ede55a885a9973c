use Rattle.std.proofs.Common.{rules, refl}
use Rattle.term.proofs.Terms.{ready_old}
use Rattle.above.specs.Roll.{whole_of}
use Rattle.above.proofs.Above.{gathered_ready}
use Rattle.judge.proofs.Judging.aborted.Goals as goal

pub windows-requires : goal.windows-requires
windows-requires c =
    let x = c.args.self in
    let n = c.gather-n.ensures.terms whole_of (search rules) in
    rw n.1 (ready_old _ _ (gathered_ready x.old.now x.new.now _ x.sound_old x.sound_new whole_of (λ r. refl)))
