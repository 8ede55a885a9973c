use mathlib.Core.List.{[]}
use Rattle.row.proofs.Windows.{flat_climbs}
use Rattle.row.proofs.steady.Goals as goal

pub search-requires-clause-climbs : goal.search-requires-clause-climbs
search-requires-clause-climbs c = let w = c.args.windows in flat_climbs _ w.demand.old.now [] _ _ w.some w.fits
