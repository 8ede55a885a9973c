use native.Mathlib.Omega.{arith}
use mathlib.Core.List.{[]}
use Rattle.row.proofs.Windows.{flat_climbs}
use Rattle.row.proofs.request.Goals as goal

pub search-requires-clause-climbs : goal.search-requires-clause-climbs
search-requires-clause-climbs c = flat_climbs _ [] c.args.windows.demand.new.now _ _ (omega arith) c.if-limit-own.false
