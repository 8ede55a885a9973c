use Rattle.std.proofs.Common.{arith, ◌-◌, sym, ◌∙◌}
use Rattle.term.proofs.Terms.{phase_by}
use Rattle.window.specs.Phases.{window_at}
use Rattle.window.specs.Behind.{Turned, Tells}
use Rattle.window.proofs.Phases.{family, calm_prev}
use Rattle.window.proofs.Behind.{start, held_less, fine_from, sweep_all}
use Rattle.window.proofs.Windows.backwards.Goals as goal

pub loop-x-init : goal.loop-x-init
unfolding window_at
loop-x-init c =
    let w = c.args.self in
    let first = sym c.search.ensures ∙ c.in_ok-first.was in
    let g = start (family w) w.limit c.in_ok-settled.settled c.in_ok-first.first (sym c.requires ∙ c.in_ok-settled.was) first in
    rw c.take.ensures (record { held = g.held; fine = λ y h l. g.fine y h })

pub look-requires-clause-held : goal.look-requires-clause-held
look-requires-clause-held c =
    let d = c.args.self.demand in
    held_less (family c.args.self) _ (omega (arith, c.prev_phase-x.ensures, phase_by d.old.now d.new.now (c.loop-x.x - 2) d.ready)) c.loop-x.invariant.held

pub loop-x-preserved : goal.loop-x-preserved
unfolding Turned
loop-x-preserved c =
    let d = c.args.self.demand in
    let seen = rw c.in_ok-s.was at c.look.ensures in
    let calm = calm_prev c.args.self _ _ c.prev_phase-x.ensures in
    record {
      held = seen.held;
      fine = fine_from (family c.args.self) (omega (arith, c.prev_phase-x.ensures, phase_by d.old.now d.new.now (c.loop-x.x - 2) d.ready)) c.loop-x.invariant.fine seen (λ y t h i. calm y t h (omega arith));
    }

pub returns : goal.returns
unfolding Tells
returns c =
    let w = c.args.self in
    let h = c.loop-x.invariant.held in
    sweep_all (family w) c.loop-x.s.best h.fits h.shown h.inside h.gives (λ y i j. c.loop-x.invariant.fine y (omega arith) j)
