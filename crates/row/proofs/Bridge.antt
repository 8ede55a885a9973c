-- From rolls to tasks: the flat windows over the terms gathered for i are the windows of document 01.
use Prim.Native.Nat.{ℕ, zero, suc, ◌+◌, ◌-◌, ◌≤◌, ◌<◌, min}
use mathlib.Core.Path.{◌≡◌, refl, sym, ap, ◌∙◌}
use mathlib.Core.Bool.{Bool, true, false, not, ◌&&◌, cond}
use mathlib.Core.List.{List, [], ◌∷◌, map}
use lib.ListN.{length, get_or}
use Rattle.std.specs.Prelude.{All}
use native.Mathlib.Omega.{arith}
use Rattle.base.specs.Sums.{sum_of}
use Rattle.base.proofs.Search.{window_same}
use Rattle.block.specs.declared.Task.{Task}
use Rattle.block.specs.Checks.{no_task}
use Rattle.block.specs.Legal.{Legal}
use Rattle.term.specs.declared.Old.{Old}
use Rattle.term.specs.declared.New.{New}
use Rattle.term.specs.Terms.{before, after, old_sum, new_sum, flat_demand}
use Rattle.term.proofs.Terms.{flat_steady_lem, flat_request_lem}
use Rattle.block.specs.declared.Kind.TheVariants.{New as Entering}
use Rattle.window.specs.Order.{kind_at, kind_of, rank, above}
use Rattle.window.specs.Demand.{sum_above, own_time, jobs, old_term, left_term, steady_demand, phase_demand, request_demand}
use Rattle.window.specs.Worst.{sweep}
use Rattle.window.specs.Phases.{window_at}
use Rattle.window.proofs.Steady.{later_is_steady}
use Rattle.above.specs.declared.Rolled.{Rolled}
use Rattle.above.specs.Roll.{is_aborted, rolled, old_of, whole_of, new_of, terms_above, left_above}
use Rattle.above.proofs.Above.{sum_terms, sum_left}
use Rattle.row.specs.Flat.{flat_steady, flat_request}
use Rattle.row.specs.Row.{steady_window, request_window, completed_row, aborted_row, new_row, row_by, row_of}

-- ---- one task

pub kind_new : (q : ℕ) → 2 ≤ q → kind_at q ≡ Entering
kind_new zero h = absurd (omega arith)
kind_new (suc zero) h = absurd (omega arith)
kind_new (suc (suc q)) h = refl

old_is : (m : ℕ) (x : Task) (k : ℕ) → k < 2 → x.kind ≡ k → before m (old_of (rolled x)) ≡ old_term (kind_at k) x m
unfolding before
old_is m x zero h e = rw e
old_is m x (suc zero) h e = rw e
old_is m x (suc (suc k)) h e = absurd (omega arith)

left_is : (b : Bool) (x : Task) (k : ℕ) → k < 2 → x.kind ≡ k → cond (b && not (is_aborted (kind_of x))) x.execution 0 ≡ cond b (left_term (kind_at k) x) 0
left_is true x zero h e = rw e
left_is true x (suc zero) h e = rw e
left_is true x (suc (suc k)) h e = absurd (omega arith)
left_is false x k h e = refl

-- ---- all that are above i

same_sum : (f g : Task → ℕ) (xs : List Task) → ((j : ℕ) → j < length xs → f (get_or xs j no_task) ≡ g (get_or xs j no_task)) → sum_of f xs ≡ sum_of g xs
unfolding sum_of
same_sum f g [] h = refl
same_sum f g (x ∷ xs) h = omega (arith, h 0 (omega arith), same_sum f g xs (λ j l. h (suc j) (omega arith)))

module _ (i : Task) (xs : List Task) where
  new_flat : (u : ℕ) → new_sum (terms_above new_of (rank i) (map rolled xs)) u ≡ sum_above i (λ x. jobs x (u - x.offset)) xs
  unfolding after sum_above
  new_flat u = sum_terms (after u) new_of (rank i) xs

  -- terms that are whole jobs of each task of the list give the steady window
  module _ (t : Rolled → Old) (whole : All (λ x. t (rolled x) ≡ whole_of (rolled x)) xs) where
    whole_flat : (m : ℕ) → old_sum (terms_above t (rank i) (map rolled xs)) m ≡ sum_above i (λ x. jobs x m) xs
    unfolding before sum_above
    whole_flat m =
        sum_terms (before m) t (rank i) xs
        ∙ same_sum _ _ xs (λ j h. ap (λ (e : Old). cond (above i (get_or xs j no_task)) (before m e) 0) (whole j no_task h))

    pub whole_steady_by : flat_steady (own_time i) (terms_above t (rank i) (map rolled xs)) i.deadline ≡ steady_window xs i
    unfolding flat_steady steady_demand
    whole_steady_by =
        window_same (flat_demand (own_time i) terms [] i.deadline) (steady_demand xs i) i.deadline
        (λ u h. omega (arith, flat_steady_lem (own_time i) terms i.deadline u h, whole_flat u))
      where
        terms : List Old
        terms = terms_above t (rank i) (map rolled xs)

  pub whole_steady : flat_steady (own_time i) (terms_above whole_of (rank i) (map rolled xs)) i.deadline ≡ steady_window xs i
  whole_steady = whole_steady_by whole_of (λ k d h. refl)

  module _ (legal : Legal 0 xs) where
    old_flat : (m : ℕ) → old_sum (terms_above old_of (rank i) (map rolled xs)) m ≡ sum_above i (λ x. old_term (kind_of x) x m) xs
    unfolding sum_above
    old_flat m =
        sum_terms (before m) old_of (rank i) xs
        ∙ same_sum _ _ xs (λ j h. ap (λ (k : ℕ). cond (above i (get_or xs j no_task)) k 0) (old_is m (get_or xs j no_task) _ ((legal.rules j h).old refl) refl))

    left_flat : left_above (rank i) (map rolled xs) ≡ sum_above i (λ x. left_term (kind_of x) x) xs
    unfolding sum_above
    left_flat =
        sum_left (rank i) xs
        ∙ same_sum _ _ xs (λ j h. left_is (above i (get_or xs j no_task)) (get_or xs j no_task) _ ((legal.rules j h).old refl) refl)

-- ---- the windows and rows

module _ (i : Task) (some : 1 ≤ own_time i) (xs ys : List Task) (legal : Legal 0 xs) where
  abbrev old : List Old
  old = terms_above old_of (rank i) (map rolled xs)

  abbrev later : List New
  later = terms_above new_of (rank i) (map rolled ys)

  steady_old_lem : flat_steady (own_time i) old i.deadline ≡ steady_window xs i
  unfolding flat_steady phase_demand sum_above sum_of
  steady_old_lem =
      window_same (flat_demand (own_time i) old [] i.deadline) (phase_demand xs [] i i.deadline) i.deadline same
      ∙ later_is_steady xs [] i legal some i.deadline i.deadline (omega arith)
    where
      same : (u : ℕ) → u ≤ i.deadline → flat_demand (own_time i) old [] i.deadline u ≡ phase_demand xs [] i i.deadline u
      same u h =
          let m : min u i.deadline ≡ u = omega arith in
          rw m (omega (arith, flat_steady_lem (own_time i) old i.deadline u h, old_flat i xs legal u))

  phase_flat : flat_demand (own_time i) old later ≡ phase_demand xs ys i
  unfolding flat_demand phase_demand
  phase_flat = λ z. λ x t. eq x t z
    where
      eq : (x t : ℕ) → own_time i + old_sum old (min t x) + new_sum later (t - x) ≡ own_time i + sum_above i (λ y. old_term (kind_of y) y (min t x)) xs + sum_above i (λ y. jobs y (t - x - y.offset)) ys
      eq x t = omega (arith, old_flat i xs legal (min t x), new_flat i ys (t - x))

  pub completed_is : i.kind ≡ 0 → completed_row (sweep (window_at (flat_demand (own_time i) old later) i.deadline) i.deadline) (flat_steady (own_time i) old i.deadline) ≡ row_of xs ys i
  unfolding row_of window_at
  completed_is e =
      ap (λ (f : ℕ → ℕ → ℕ). completed_row (sweep (window_at f i.deadline) i.deadline) (flat_steady (own_time i) old i.deadline)) phase_flat
      ∙ (ap (completed_row (sweep (window_at (phase_demand xs ys i) i.deadline) i.deadline)) steady_old_lem ∙ sym (ap (λ (q : ℕ). row_by (kind_at q) xs ys i) e))

  pub aborted_is : i.kind ≡ 1 → aborted_row (flat_steady (own_time i) (terms_above whole_of (rank i) (map rolled xs)) i.deadline) ≡ row_of xs ys i
  unfolding row_of
  aborted_is e = ap aborted_row (whole_steady i xs) ∙ sym (ap (λ (q : ℕ). row_by (kind_at q) xs ys i) e)

  request_new : flat_request (own_time i + left_above (rank i) (map rolled xs)) later (i.offset + i.deadline) ≡ request_window xs ys i
  unfolding flat_request request_demand
  request_new =
      window_same (flat_demand (own_time i + left_above (rank i) (map rolled xs)) [] later 0) (request_demand xs ys i) (i.offset + i.deadline)
      (λ u h. omega (arith, flat_request_lem (own_time i + left_above (rank i) (map rolled xs)) later u, new_flat i ys u, left_flat i xs legal))

  pub new_is : 2 ≤ i.kind
      → new_row i (flat_steady (own_time i) (terms_above whole_of (rank i) (map rolled ys)) i.deadline) (flat_request (own_time i + left_above (rank i) (map rolled xs)) later (i.offset + i.deadline)) ≡ row_of xs ys i
  unfolding row_of
  new_is e = rw (whole_steady i ys, request_new, kind_new i.kind e)
