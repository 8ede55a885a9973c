-- Tasks rolled out, and the terms that they give of those above a rank. Definitions only.
use Rattle.std.specs.Prelude.{ℕ, ◌+◌, ◌≡◌, ◌≤◌, Bool, true, false, not, ◌&&◌, cond, List, [], ◌∷◌, length, map, filter, set, All, sum_by, ltb}
use Rattle.base.specs.Numbers.{recip_of}
use Rattle.block.specs.declared.Task.{Task}
use Rattle.term.specs.declared.Old.{Old}
use Rattle.term.specs.declared.New.{New}
use Rattle.term.specs.Terms.{Good}
use Rattle.block.specs.declared.Kind.{Kind}
use Rattle.block.specs.declared.Kind.TheVariants.{Completed, Aborted, New as Entering}
use Rattle.window.specs.Order.{kind_of, rank}
use Rattle.above.specs.declared.Rolled.{Rolled}

-- whether a kind is the aborted one
abbrev pub is_aborted : Kind → Bool
is_aborted Completed = false
is_aborted Aborted = true
is_aborted Entering = false

-- a task, rolled out
abbrev pub rolled : Task → Rolled
rolled x =
    record {
      old = record { jobs = record { recip = recip_of x.period; period = x.period; execution = x.execution }; cut = is_aborted (kind_of x) };
      offset = x.offset;
      rank = rank x;
    }

-- as terms: an old task, cut off where it is aborted; whole jobs; a new task
abbrev pub old_of : Rolled → Old
old_of r = r.old

abbrev pub whole_of : Rolled → Old
whole_of r = record { jobs = r.old.jobs; cut = false }

abbrev pub new_of : Rolled → New
new_of r = record { jobs = r.old.jobs; offset = r.offset }

-- tasks that can be rolled out
pub record Periodic (xs : List Task) : Type 0 where
  pub few : length xs ≤ 30
  pub periods : All (λ x. 1 ≤ x.period) xs

-- rolled tasks whose periods may be divided by
pub record Sound (rs : List Rolled) : Type 0 where
  pub few : length rs ≤ 30
  pub good : All (λ r. Good r.old.jobs) rs

-- r is above the rank p
abbrev pub is_above : ℕ → Rolled → Bool
is_above p r = ltb r.rank p

-- those of a list that are, how many they are, and their terms
abbrev pub all_above : ℕ → List Rolled → List Rolled
all_above p rs = filter (is_above p) rs

abbrev pub count_above : ℕ → List Rolled → ℕ
count_above p rs = length (all_above p rs)

abbrev pub terms_above : {T : Type 0} → (Rolled → T) → ℕ → List Rolled → List T
terms_above t p rs = map t (all_above p rs)

-- what is called gives t of each of these tasks
abbrev pub Gives : {T : Type 0} → (Rolled → T → Type 0) → (Rolled → T) → List Rolled → Type 0
Gives post t rs = All (λ r. (y : _) → post r y → y ≡ t r) rs

-- the terms of all, written over a list from place c on, each over the one before it where that is not above
unfoldable pub terms_from : {T : Type 0} → (Rolled → T) → ℕ → List Rolled → ℕ → List T → List T
terms_from t p [] c l = l
terms_from t p (r ∷ rs) c l = terms_from t p rs (c + cond (is_above p r) 1 0) (set l c (t r))

-- what gathering leaves in a list
abbrev pub gathered : {T : Type 0} → (Rolled → T) → ℕ → List Rolled → List T → List T
gathered t p rs l = terms_from t p rs 0 l

-- what a task leaves at the request to one of rank p: C where it is above and completed; and what all leave
abbrev pub left_of : ℕ → Rolled → ℕ
left_of p r = cond (is_above p r && not r.old.cut) r.old.jobs.execution 0

abbrev pub left_above : ℕ → List Rolled → ℕ
left_above p rs = sum_by (left_of p) rs
