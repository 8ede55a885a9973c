use Rattle.std.proofs.Common.{arith, sym, ◌∙◌}
use Rattle.window.specs.Phases.{window_at}
use Rattle.window.specs.Behind.{Turned}
use Rattle.window.proofs.Phases.{family}
use Rattle.window.proofs.Behind.{seen_one, seen_bar, seen_short, seen_found, back_climbs}
use Rattle.window.proofs.Windows.look.Goals.{then-x-eq1-via-then-x-eq1, then-x-eq1-via-else-x-eq1+then-at-bar}
use Rattle.window.proofs.Windows.look.Goals as goal

pub returns-then-x-eq1 : goal.returns-then-x-eq1
unfolding Turned
returns-then-x-eq1 c =
    let q = c.requires in
    elim c.then-x-eq1.branch [
      | then-x-eq1-via-then-x-eq1 b ↦ seen_one (family c.args.self) c.args.x q.some q.held b.if-x-eq1.true
      | then-x-eq1-via-else-x-eq1+then-at-bar b ↦ seen_bar (family c.args.self) c.args.x q.some q.held _ c.bar-bar.ensures (omega (arith, b.at.ensures, b.if-at-bar.true))
    ]

pub returns-then-gone-saturating_sub : goal.returns-then-gone-saturating_sub
unfolding Turned
returns-then-gone-saturating_sub c =
    let q = c.requires in
    seen_short (family c.args.self) c.args.x q.some q.held _ c.at-a.ensures (omega (arith, c.saturating_sub.ensures, c.if-gone-saturating_sub.true, q.held.past))

pub search-requires-clause-climbs : goal.search-requires-clause-climbs
search-requires-clause-climbs c =
    let q = c.requires in
    back_climbs (family c.args.self) c.args.x q.some q.held _ c.at-a.ensures (omega (arith, c.saturating_sub.ensures, c.if-gone-saturating_sub.false, q.held.past))

pub returns : goal.returns
unfolding Turned window_at
returns c =
    let q = c.requires in
    let e = sym c.search.ensures ∙ c.in_ok-t.was in
    rw c.take_over.ensures
    (seen_found (family c.args.self) c.args.x q.some q.held _ c.at-a.ensures (omega (arith, c.saturating_sub.ensures, c.if-gone-saturating_sub.false, q.held.past)) _ c.bar-bar.ensures _ e)
