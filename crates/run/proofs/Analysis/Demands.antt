-- The demands over places, each task's term by its kind, and that they are the demands of the window layer over the two lists.
use Prim.Native.Nat.{ℕ, zero, suc, ◌+◌, ◌-◌, ◌≤◌, ◌<◌, min}
use mathlib.Core.Path.{◌≡◌, refl, sym, ap, ◌∙◌}
use mathlib.Core.Bool.{}
use mathlib.Core.List.{List, [], ◌∷◌, ◌++◌}
use native.Mathlib.Decide.{dec_lt, ℕ_discrete}
use native.Mathlib.Omega.{arith}
use borrow.Author.Tests.{ltb-true, lt-ltb, le-ltb, le-leb, lt-leb, eq-eqb, ne_eqb}
use lib.Dec.{leb, eqb}
use lib.ListN.{length}
use Rattle.base.specs.Sums.{sum, sum_of}
use Rattle.base.proofs.Sums.{sum_le, sum_eq, sum_add, sum_only, list_append, list_places}
use Rattle.block.specs.declared.Task.{Task}
use Rattle.block.specs.Checks.{no_task}
use Rattle.block.specs.Legal.{Legal}
use Rattle.block.specs.declared.Kind.{Kind}
use Rattle.block.specs.declared.Kind.TheVariants.{Completed, Aborted, New}
use Rattle.window.specs.Order.{kind_at, kind_of, rank, above}
use Rattle.window.specs.Demand.{sum_above, jobs, cut, steady_demand, old_term, phase_demand, left_term, request_demand}
use Rattle.run.specs.Promise.{count, task}
use Rattle.run.proofs.Picks.{pick, pick_le, pick_zero}
use Rattle.run.proofs.Tasks.{Sound}

-- a sum over the places of the tasks above i
unfoldable pub over_above : (n : ℕ) → (ℕ → Task) → ℕ → (ℕ → ℕ) → ℕ
over_above n tk i b = sum n (λ j. pick (above (tk i) (tk j)) (b j))

-- ---- a task's term: steady in the old mode, steady in the new one, at phase x, from the request

abbrev pub steady_old : Kind → Task → ℕ → ℕ
steady_old Completed k t = jobs k t
steady_old Aborted k t = jobs k t
steady_old New k t = 0

abbrev pub steady_new : Kind → Task → ℕ → ℕ
steady_new Completed k t = 0
steady_new Aborted k t = 0
steady_new New k t = jobs k t

abbrev pub at_phase : Kind → Task → ℕ → ℕ → ℕ
at_phase Completed k x t = jobs k (min t x)
at_phase Aborted k x t = cut k (min t x)
at_phase New k x t = jobs k (t - x - k.offset)

abbrev pub from_request : Kind → Task → ℕ → ℕ
from_request Completed k t = k.execution
from_request Aborted k t = 0
from_request New k t = jobs k (t - k.offset)

abbrev pub demand_old : (n : ℕ) → (ℕ → Task) → ℕ → ℕ → ℕ
demand_old n tk i t = (tk i).execution + over_above n tk i (λ j. steady_old (kind_of (tk j)) (tk j) t)

abbrev pub demand_new : (n : ℕ) → (ℕ → Task) → ℕ → ℕ → ℕ
demand_new n tk i t = (tk i).execution + over_above n tk i (λ j. steady_new (kind_of (tk j)) (tk j) t)

abbrev pub demand_phase : (n : ℕ) → (ℕ → Task) → ℕ → ℕ → ℕ → ℕ
demand_phase n tk i x t = (tk i).execution + over_above n tk i (λ j. at_phase (kind_of (tk j)) (tk j) x t)

abbrev pub demand_request : (n : ℕ) → (ℕ → Task) → ℕ → ℕ → ℕ
demand_request n tk i t = (tk i).execution + over_above n tk i (λ j. from_request (kind_of (tk j)) (tk j) t)

-- ---- sums over the tasks above i

module _ (n : ℕ) (tk : ℕ → Task) (i : ℕ) where
  pub above_le : (f g : ℕ → ℕ) → ((j : ℕ) → j < n → rank (tk j) < rank (tk i) → f j ≤ g j) → over_above n tk i f ≤ over_above n tk i g
  unfolding over_above
  above_le f g h =
      sum_le n (λ j. pick (above (tk i) (tk j)) (f j)) (λ j. pick (above (tk i) (tk j)) (g j))
      (λ j l. pick_le (above (tk i) (tk j)) (f j) (g j) (λ e. h j l (ltb-true (rank (tk j)) (rank (tk i)) e)))

  -- the sum over i and above is i's term and the sum over those above
  pub level_above : Sound n tk → i < n → (b : ℕ → ℕ) → sum n (λ j. pick (leb (rank (tk j)) (rank (tk i))) (b j)) ≡ b i + over_above n tk i b
  unfolding over_above
  level_above G l b =
      sum_eq n (λ j. pick (leb (ρ j) (ρ i)) (b j)) (λ j. pick (eqb j i) (b j) + pick (above (tk i) (tk j)) (b j)) at_j
      ∙ sum_add n (λ j. pick (eqb j i) (b j)) (λ j. pick (above (tk i) (tk j)) (b j))
      ∙ ap (λ (z : ℕ). z + sum n (λ j. pick (above (tk i) (tk j)) (b j))) (sum_only n (λ j. pick (eqb j i) (b j)) i l (λ k m d. rw (ne_eqb k i d)) ∙ rw (eq-eqb i i refl))
    where
      ρ : ℕ → ℕ
      ρ j = rank (tk j)

      at_j : (j : ℕ) → j < n → pick (leb (ρ j) (ρ i)) (b j) ≡ pick (eqb j i) (b j) + pick (above (tk i) (tk j)) (b j)
      at_j j m =
          elim (ℕ_discrete j i) [
            | yes e ↦
                let e' : ρ j ≡ ρ i = ap ρ e in
                rw (le-leb (ρ j) (ρ i) (omega arith), le-ltb (ρ j) (ρ i) (omega arith), e, eq-eqb i i refl) (omega arith)
            | no d ↦ elim (dec_lt (ρ j) (ρ i)) [
              | yes h ↦ rw (le-leb (ρ j) (ρ i) (omega arith), lt-ltb (ρ j) (ρ i) h, ne_eqb j i d) (omega arith)
              | no h ↦
                  let z : ρ i < ρ j = elim (ℕ_discrete (ρ j) (ρ i)) [ yes c ↦ absurd (d (G.ranks j i m l c)) | no c ↦ omega arith ] in
                  rw (lt-leb (ρ j) (ρ i) z, le-ltb (ρ j) (ρ i) (omega arith), ne_eqb j i d) (omega arith)
            ]
          ]

-- ---- over the two lists

no_sum : (i : Task) (xs : List Task) → sum_above i (λ k. 0) xs ≡ 0
unfolding sum_above sum_of
no_sum i [] = refl
no_sum i (x ∷ xs) = omega (arith, no_sum i xs, pick_zero (above i x) 0 refl)

same_terms : (i : Task) (f g : Task → ℕ) (xs : List Task) → ((k : ℕ) → k < length xs → f (task xs k) ≡ g (task xs k)) → sum_above i f xs ≡ sum_above i g xs
unfolding sum_above
same_terms i f g xs h =
    list_places (λ x. pick (above i x) (f x)) xs no_task
    ∙ sum_eq (length xs) (λ k. pick (above i (task xs k)) (f (task xs k))) (λ k. pick (above i (task xs k)) (g (task xs k))) (λ k l. ap (pick (above i (task xs k))) (h k l))
    ∙ sym (list_places (λ x. pick (above i x) (g x)) xs no_task)

module _ (olds news : List Task) (old-legal : Legal 0 olds) (new-legal : Legal 1 news) where
  -- terms by kind are one term for the old tasks and one for the new
  by_lists : (i : ℕ) (h f : Kind → Task → ℕ) (g : Task → ℕ)
      → ((x : Task) → h Completed x ≡ f Completed x) → ((x : Task) → h Aborted x ≡ f Aborted x) → ((x : Task) → h New x ≡ g x)
      → over_above (count (olds ++ news)) (task (olds ++ news)) i (λ j. h (kind_of (task (olds ++ news) j)) (task (olds ++ news) j))
      ≡ sum_above (task (olds ++ news) i) (λ x. f (kind_of x) x) olds + sum_above (task (olds ++ news) i) g news
  unfolding over_above sum_above
  by_lists i h f g a b c =
      sym (list_places (λ x. pick (above (tk i) x) (h (kind_of x) x)) (olds ++ news) no_task)
      ∙ list_append (λ x. pick (above (tk i) x) (h (kind_of x) x)) olds news
      ∙ omega (
        arith,
        same_terms (tk i) (λ x. h (kind_of x) x) (λ x. f (kind_of x) x) olds (λ k l. old_term_lem (task olds k) (task olds k).kind ((old-legal.rules k l).old refl)),
        same_terms (tk i) (λ x. h (kind_of x) x) g news (λ k l. rw ((new-legal.rules k l).new refl) (c (task news k))),
      )
    where
      tk : ℕ → Task
      tk = task (olds ++ news)

      old_term_lem : (x : Task) (k : ℕ) → k < 2 → h (kind_at k) x ≡ f (kind_at k) x
      old_term_lem x zero l = a x
      old_term_lem x (suc zero) l = b x
      old_term_lem x (suc (suc k)) l = absurd (omega arith)

  module _ (i t : ℕ) where
    pub steady_old_lem : steady_demand olds (task (olds ++ news) i) t ≡ demand_old (count (olds ++ news)) (task (olds ++ news)) i t
    unfolding steady_demand
    steady_old_lem =
        omega (
          arith,
          by_lists i (λ k x. steady_old k x t) (λ k x. jobs x t) (λ x. 0) (λ x. refl) (λ x. refl) (λ x. refl),
          no_sum (task (olds ++ news) i) news,
        )

    pub steady_new_lem : steady_demand news (task (olds ++ news) i) t ≡ demand_new (count (olds ++ news)) (task (olds ++ news)) i t
    unfolding steady_demand
    steady_new_lem =
        omega (
          arith,
          by_lists i (λ k x. steady_new k x t) (λ k x. 0) (λ x. jobs x t) (λ x. refl) (λ x. refl) (λ x. refl),
          no_sum (task (olds ++ news) i) olds,
        )

    pub at_phase_lem : (x : ℕ) → phase_demand olds news (task (olds ++ news) i) x t ≡ demand_phase (count (olds ++ news)) (task (olds ++ news)) i x t
    unfolding phase_demand
    at_phase_lem x = omega (arith, by_lists i (λ k z. at_phase k z x t) (λ k z. old_term k z (min t x)) (λ z. jobs z (t - x - z.offset)) (λ z. refl) (λ z. refl) (λ z. refl))

    pub from_request_lem : request_demand olds news (task (olds ++ news) i) t ≡ demand_request (count (olds ++ news)) (task (olds ++ news)) i t
    unfolding request_demand
    from_request_lem = omega (arith, by_lists i (λ k x. from_request k x t) left_term (λ x. jobs x (t - x.offset)) (λ x. refl) (λ x. refl) (λ x. refl))
