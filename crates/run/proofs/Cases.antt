-- Small runs by computation: what the definitions give for the tasks of cases a, f, g and h of the paper.
use Prim.Native.Nat.{ℕ, zero, suc, ◌+◌, ◌≤◌, ◌<◌}
use mathlib.Core.Path.{◌≡◌, refl}
use mathlib.Core.Logic.{inl, inr}
use mathlib.Core.Bool.{cond}
use mathlib.Core.List.{List, [], ◌∷◌, ◌++◌}
use native.Mathlib.Nat.{le_refl, eq-zero-or-pos}
use native.Mathlib.Omega.{arith}
use borrow.Author.Tests.{eqb-true}
use lib.Dec.{eqb}
use Rattle.base.specs.Lists.{up_to}
use Rattle.base.specs.Sums.{sum}
use Rattle.block.specs.declared.Task.{Task}
use Rattle.block.specs.declared.Kind.TheVariants.{Completed, Aborted, New}
use Rattle.window.specs.Order.{kind_of, rank}
use Rattle.pair.specs.Cases.{completed_task, new_task, olds_a, news_a, olds_f, olds_g}
use Rattle.run.specs.Run.{Slot, idle, job, Run, service, MayCome, IsRun}
use Rattle.run.specs.Promise.{task, NotCut, Takes}
use Rattle.run.proofs.Picks.{pick_pos, pick_below}
use Rattle.run.proofs.Tasks.{Sound}
use Rattle.run.proofs.Analysis.Counted.{every}
use Rattle.run.proofs.Behaviour.Built.{earliest, best, hist, built, built_run}
use Rattle.run.proofs.Result.Exact.{worst_need, worst_run}

-- what the first ticks serve
abbrev ticks : Run → ℕ → List Slot
ticks R t = up_to R.serve t

-- ---- case a: number 2 stands at place 1, and its row has 9 at phase 1

abbrev a_run : Run
a_run = worst_run 4 (task (olds_a 20 ++ news_a 20)) 1 1

a_ticks : ticks a_run 10 ≡ job 0 0 ∷ job 0 0 ∷ job 2 1 ∷ job 2 1 ∷ job 2 1 ∷ job 1 0 ∷ job 1 0 ∷ job 1 0 ∷ job 1 0 ∷ idle ∷ []
unfolding up_to worst_run worst_need built hist best earliest every rank
a_ticks = refl

-- it ends at 9 and not at 8
a_ends : (service a_run 1 0 8 ≡ 3) × (service a_run 1 0 9 ≡ 4)
unfolding service sum worst_run worst_need built hist best earliest every rank
a_ends = (refl, refl)

-- so it takes neither 10 nor 8
a_not_more : Takes a_run 1 0 10 → ⊥
unfolding service sum worst_run worst_need built hist best earliest every rank
a_not_more k = omega (arith, k.not_sooner 9 (omega arith))

a_not_less : Takes a_run 1 0 8 → ⊥
unfolding service sum worst_run worst_need built hist best earliest every rank
a_not_less k = omega (arith, k.ends)

-- ---- no old job comes at the request, and only aborted ones can be cut off

none_at_request : (q y : ℕ) → (MayCome Completed q y q → ⊥) × (MayCome Aborted q y q → ⊥)
none_at_request q y = (λ h. omega arith, λ h. omega arith)

others_whole : (R : Run) (i r : ℕ) → NotCut Completed R i r × NotCut New R i r
others_whole R i r = (tt, tt)

-- ---- case f: the completed task stands at place 1 under an aborted one, and its row has 8 at phase 4

-- in the run of the proof aborted tasks release nothing: there the job ends at 4, and the promise claims no more of this task
f_ends : (service (worst_run 2 (task olds_f) 1 4) 1 0 3 ≡ 3) × (service (worst_run 2 (task olds_f) 1 4) 1 0 4 ≡ 4)
unfolding service sum worst_run worst_need built hist best earliest every rank
f_ends = (refl, refl)

-- both tasks released at 0 with 4 ticks each, the request at q
f_need : ℕ → ℕ → ℕ
f_need i r = cond (eqb r 0) 4 0

abbrev f_built : ℕ → Run
f_built q = built 2 (task olds_f) q f_need

-- that is a run for any q from 1 on
at_two : (P : ℕ → Type 0) → P 0 → P 1 → (i : ℕ) → i < 2 → P i
at_two P a b zero l = a
at_two P a b (suc zero) l = b
at_two P a b (suc (suc i)) l = absurd (omega arith)

f_ranks : (i : ℕ) → i < 2 → (j : ℕ) → j < 2 → rank (task olds_f i) ≡ rank (task olds_f j) → i ≡ j
unfolding rank
f_ranks =
    at_two (λ i. (j : ℕ) → j < 2 → rank (task olds_f i) ≡ rank (task olds_f j) → i ≡ j)
    (at_two (λ j. rank (task olds_f 0) ≡ rank (task olds_f j) → 0 ≡ j) (λ e. refl) (λ e. absurd (omega arith)))
    (at_two (λ j. rank (task olds_f 1) ≡ rank (task olds_f j) → 1 ≡ j) (λ e. absurd (omega arith)) (λ e. refl))

f_sound : Sound 2 (task olds_f)
f_sound = record {
  period = at_two (λ i. 0 < (task olds_f i).period) (omega arith) (omega arith);
  execution = at_two (λ i. 0 < (task olds_f i).execution) (omega arith) (omega arith);
  in_deadline = at_two (λ i. (task olds_f i).execution ≤ (task olds_f i).deadline) (omega arith) (omega arith);
  in_period = at_two (λ i. (task olds_f i).deadline ≤ (task olds_f i).period) (omega arith) (omega arith);
  ranks = λ i j l h e. f_ranks i l j h e;
}

f_once : (i r : ℕ) → 0 < f_need i r → r ≡ 0
unfolding f_need
f_once i r h = eqb-true r 0 (pick_pos (eqb r 0) 4 h).0

f_fits : (i r : ℕ) → f_need i r ≤ 4
unfolding f_need
f_fits i r = pick_below (eqb r 0) 4 4 (le_refl 4)

f_run : (q : ℕ) → 0 < q → IsRun 2 (task olds_f) (f_built q)
unfolding built
f_run q p = built_run 2 (task olds_f) f_sound q f_need (record {
  fits = λ i r. at_two (λ i. f_need i r ≤ (task olds_f i).execution) (f_fits 0 r) (f_fits 1 r) i;
  apart = λ i r d l h e v. elim (eq-zero-or-pos (f_need i (r + d))) [
    | inl z ↦ z
    | inr z ↦ absurd (omega (arith, f_once i (r + d) z))
  ];
  comes = λ i r l h. at_two (λ i. r ≡ 0 → MayCome (kind_of (task olds_f i)) q (task olds_f i).offset r) (λ z. omega arith) (λ z. omega arith) i l (f_once i r h);
})

-- with the request at 4 the aborted job has just ended, and the other's 8 is reached
f_reached : NotCut Aborted (f_built 4) 0 0 × (service (f_built 4) 1 0 7 ≡ 3) × (service (f_built 4) 1 0 8 ≡ 4)
unfolding service sum built hist best earliest rank f_need
f_reached = (refl, refl, refl)

-- with the request at 1 it is cut off after a tick, and the other job ends at 5
f_cut : ticks (f_built 1) 6 ≡ job 0 0 ∷ job 1 0 ∷ job 1 0 ∷ job 1 0 ∷ job 1 0 ∷ idle ∷ []
unfolding up_to built hist best earliest rank f_need
f_cut = refl

-- ---- case g: two aborted tasks above, the row has 20 at phase 14; all released as often as they may, the job ends at 16

g_need : ℕ → ℕ → ℕ
g_need i r = every (task olds_g i).period 4 r

g_ends : (service (built 3 (task olds_g) 14 g_need) 2 0 15 ≡ 3) × (service (built 3 (task olds_g) 14 g_need) 2 0 16 ≡ 4)
unfolding service sum built hist best earliest rank g_need every
g_ends = (refl, refl)

-- ---- case h: at equal priorities the old job, released at 0, goes on when the new one comes at 1

abbrev h_tasks : List Task
h_tasks = completed_task 1 10 10 2 5 ∷ new_task 1 10 10 3 5 0 ∷ []

h_need : ℕ → ℕ → ℕ
h_need i r = cond (eqb i r) (i + 2) 0

h_ticks : ticks (built 2 (task h_tasks) 1 h_need) 6 ≡ job 0 0 ∷ job 0 0 ∷ job 1 1 ∷ job 1 1 ∷ job 1 1 ∷ idle ∷ []
unfolding up_to built hist best earliest rank h_need
h_ticks = refl
