-- The windows as the code works them out of the tasks above. Definitions only, for the contracts of internal functions.
use Rattle.std.specs.Prelude.{ℕ, ◌+◌, List, [], Option, Result}
use Rattle.base.specs.Search.{window_of}
use Rattle.term.specs.declared.Old.{Old}
use Rattle.term.specs.declared.New.{New}
use Rattle.term.specs.Terms.{flat_demand}
use Rattle.window.specs.declared.Worst.{Worst}
use Rattle.window.specs.declared.Windows.{Windows}
use Rattle.window.specs.Worst.{sweep}
use Rattle.window.specs.Phases.{asks, window_at}

-- steady: the old tasks alone, at a phase that comes no sooner than the limit
unfoldable pub flat_steady : ℕ → List Old → ℕ → Option ℕ
flat_steady c o limit = window_of (flat_demand c o [] limit) limit

-- from the request: the new tasks alone, at phase 0
unfoldable pub flat_request : ℕ → List New → ℕ → Option ℕ
flat_request c w limit = window_of (flat_demand c [] w 0) limit

-- the same of one task's windows: what its phases give, its steady window, and that from the request
abbrev pub swept_of : Windows → Result Worst ℕ
swept_of w = sweep (window_at (asks w.demand) w.limit) w.limit

abbrev pub steady_of : Windows → Option ℕ
steady_of w = flat_steady w.demand.own w.demand.old.now w.limit

abbrev pub request_of : Windows → ℕ → ℕ → Option ℕ
request_of w left limit = flat_request (w.demand.own + left) w.demand.new.now limit
