use Rattle.std.proofs.Common.{arith, sym, ◌∙◌}
use Rattle.window.specs.Phases.{Stepped, window_at}
use Rattle.window.proofs.Phases.{family, kept_climbs, seen_best, seen_window}
use Rattle.window.proofs.Windows.see.Goals as goal

pub returns-then-at-w : goal.returns-then-at-w
unfolding Stepped
returns-then-at-w c = seen_best (family c.args.self) c.requires.kept (omega (arith, c.at.ensures, c.if-at-w.true))

pub search-requires-clause-climbs : goal.search-requires-clause-climbs
search-requires-clause-climbs c =
    let w = c.args.self in
    let begun = rw c.at-a.ensures at c.start_at.ensures in
    kept_climbs (family w) c.requires.kept w.fits c.requires.within _ begun

pub returns : goal.returns
unfolding Stepped window_at
returns c =
    let e = sym c.search.ensures ∙ c.in_ok-t.was in
    rw (c.take.ensures, c.max.ensures, c.min.ensures, c.at-a.ensures) (seen_window (family c.args.self) c.requires.kept _ e)
