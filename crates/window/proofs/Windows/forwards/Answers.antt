use Rattle.std.proofs.Common.{arith, sym, ◌≡◌, ◌∙◌, Err}
use Rattle.std.proofs.lemmas.Grind.{common_steps}
use Rattle.term.proofs.Terms.{phase_within}
use Rattle.window.specs.Phases.{Stepped}
use Rattle.window.proofs.Phases.{family, phase_later, calm_next, kept_first, kept_next, sweep_early, sweep_late}
use Rattle.window.proofs.Windows.forwards.Goals as goal

pub loop-x-init : goal.loop-x-init
loop-x-init c = kept_first (family c.args.self) c.args.self.fits

pub returns-in_err-s : goal.returns-in_err-s
unfolding Stepped
returns-in_err-s c =
    let seen = rw (c.ok_or.ensures.ok_part, c.in_err-s.was) at c.see.ensures in
    let late : c.from_residual.result ≡ Err c.loop-x.x = grind (arith, common_steps) in
    late ∙ sym (sweep_late (family c.args.self) c.loop-x.invariant (omega arith) seen)

pub returns-then-s-x : goal.returns-then-s-x
unfolding Stepped
returns-then-s-x c =
    let seen = rw (c.ok_or.ensures.ok_part, c.in_ok-s.was) at c.see.ensures in
    sym (sweep_early (family c.args.self) c.loop-x.invariant seen (omega arith) (omega (arith, c.if-s-x.true)))

pub loop-x-preserved : goal.loop-x-preserved
unfolding Stepped
loop-x-preserved c =
    let w = c.args.self in
    let l = c.loop-x in
    let o = w.demand.old.now in
    let seen = rw (c.ok_or.ensures.ok_part, c.in_ok-s.was) at c.see.ensures in
    kept_next (family w) l.invariant seen _
    (omega (arith, c.next_phase-x.ensures, phase_later o w.demand.new.now l.x w.limit w.demand.ready))
    (omega (arith, c.next_phase-x.ensures, phase_within o l.x w.limit))
    (calm_next w _ _ c.next_phase-x.ensures (omega arith))
