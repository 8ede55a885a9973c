-- Cases a to j of document 01 hold of the definitions that `analyse` cites, and so on every two blocks that hold their tasks; and more cases.
use Prim.Native.Nat.{ℕ}
use mathlib.Core.Path.{◌≡◌, refl, sym, ◌∙◌}
use mathlib.Core.List.{List, [], ◌∷◌, map, flat_map}
use lib.ListN.{get_or, get_or-map}
use Rattle.base.specs.Lists.{up_to, every, any}
use Rattle.base.specs.Sums.{sum_of}
use Rattle.base.specs.Numbers.{ceil, jobs_in, cut_in}
use Rattle.base.specs.Search.{first_where, window_of}
use Rattle.block.specs.Answers.{answer, done, first_of}
use Rattle.block.specs.Block.{word_sum, headed, seal_checks, head_checks, block_verdict, holds, reading_of}
use Rattle.window.specs.Order.{rank}
use Rattle.window.specs.Demand.{sum_above, steady_demand, phase_demand, request_demand}
use Rattle.window.specs.Worst.{take_of, next_of, sweep}
use Rattle.row.specs.Row.{row_of}
use Rattle.pair.specs.Analysis.{Analysis, analysis, pair_of, analyse_of}
use Rattle.pair.specs.Cases.{Case, accepted, lent, found, expected, cases, more_cases, blank_block}

-- the whole first table, whatever the mode numbers
pub cases_hold : (m k : ℕ) → map (found m k) cases ≡ map expected cases
unfolding cases up_to sum_of ceil jobs_in cut_in first_where window_of first_of rank sum_above steady_demand phase_demand request_demand take_of next_of sweep row_of flat_map pair_of
cases_hold m k = refl

-- and the second table
pub more_hold : (m k : ℕ) → map (found m k) more_cases ≡ map expected more_cases
unfolding more_cases up_to sum_of ceil jobs_in cut_in first_where window_of first_of rank sum_above steady_demand phase_demand request_demand take_of next_of sweep row_of flat_map pair_of
more_hold m k = refl

-- the old block is judged as one of side 0 and before the new one, that as one of side 1
pub blocks_hold : (analyse_of [] [] (7 ∷ []) ≡ analysis (answer 1 0 0 0) (7 ∷ [])) × (analyse_of blank_block [] (7 ∷ []) ≡ analysis (answer 1 1 0 0) (7 ∷ []))
    × (analyse_of blank_block blank_block (7 ∷ []) ≡ analysis (answer 4 1 0 0) (7 ∷ []))
unfolding analyse_of reading_of block_verdict seal_checks head_checks headed word_sum first_of every any up_to
blocks_hold = (refl, refl, refl)

-- the case at a place of the first table; past its end, case i
abbrev pub case_at : ℕ → Case
case_at j = get_or cases j (accepted [] [] 0 [])

same : (xs ys : List Analysis) (j : ℕ) (d : Analysis) → xs ≡ ys → get_or xs j d ≡ get_or ys j d
same xs ys j d e = rw e

holds_at : (j m k : ℕ) → found m k (case_at j) ≡ expected (case_at j)
unfolding first_of up_to flat_map pair_of
holds_at j m k =
    sym (get_or-map (found m k) cases j (accepted [] [] 0 []))
    ∙ same (map (found m k) cases) (map expected cases) j (analysis done []) (cases_hold m k)
    ∙ get_or-map expected cases j (accepted [] [] 0 [])

pub cases_analysed : (j m k : ℕ) (old_block new_block : List ℕ) → reading_of 0 old_block ≡ holds m (case_at j).olds
    → reading_of 1 new_block ≡ holds k (case_at j).news → analyse_of old_block new_block (lent (case_at j)) ≡ expected (case_at j)
unfolding analyse_of
cases_analysed j m k old_block new_block p q = rw (p, q) (holds_at j m k)
