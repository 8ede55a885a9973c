-- The second half of the promise: the request at the phase that gives the window, all tasks of the level released at once and as often as they may.
use Prim.Native.Nat.{ℕ, ◌+◌, ◌-◌, ◌≤◌, ◌<◌, min}
use mathlib.Core.Path.{◌≡◌, refl, ap, ◌∙◌}
use native.Mathlib.Nat.{le_refl, not-suc-le-zero, zero-mod}
use native.Mathlib.Decide.{dec_lt}
use native.Mathlib.Omega.{arith}
use borrow.Author.Tests.{ltb-true, leb-true, lt-ltb, le-ltb, le-leb, lt-leb}
use lib.Dec.{leb, ltb}
use Rattle.base.specs.Sums.{sum}
use Rattle.base.proofs.Sums.{sum_eq, sum_cut, sum_late}
use Rattle.block.specs.declared.Task.{Task}
use Rattle.block.specs.declared.Kind.{Kind}
use Rattle.block.specs.declared.Kind.TheVariants.{Completed, Aborted, New}
use Rattle.window.specs.Order.{kind_of, rank}
use Rattle.window.specs.Demand.{jobs}
use Rattle.run.specs.Run.{Run, Job, service, Ended, MayCome, Releases, Preemptive, IsRun}
use Rattle.run.specs.Promise.{NoAbortedAbove, Reached}
use Rattle.run.proofs.Picks.{pick, pick_pos, pick_zero, pick_below}
use Rattle.run.proofs.Tasks.{Sound}
use Rattle.run.proofs.Analysis.Counted.{every, every_le, every_apart, every_sum}
use Rattle.run.proofs.Analysis.Demands.{at_phase, demand_phase, above_le}
use Rattle.run.proofs.Behaviour.Accounts.{work, service_le}
use Rattle.run.proofs.Behaviour.Levels.{in_level, others_present}
use Rattle.run.proofs.Behaviour.Built.{built, built_schedule, built_run}
use Rattle.run.proofs.Result.Waited.{waited}

-- ---- the worst releases

abbrev pub worst_of : Kind → Task → ℕ → ℕ → ℕ
worst_of Completed a x r = pick (ltb r x) (every a.period a.execution r)
worst_of Aborted a x r = 0
worst_of New a x r = pick (leb (x + a.offset) r) (every a.period a.execution (r - (x + a.offset)))

worst_fits : (k : Kind) (a : Task) (x r : ℕ) → worst_of k a x r ≤ a.execution
worst_fits Completed a x r = pick_below (ltb r x) (every a.period a.execution r) a.execution (every_le a.period a.execution r)
worst_fits Aborted a x r = omega arith
worst_fits New a x r = pick_below (leb (x + a.offset) r) (every a.period a.execution (r - (x + a.offset))) a.execution (every_le a.period a.execution (r - (x + a.offset)))

worst_apart : (k : Kind) (a : Task) (x r d : ℕ) → 0 < worst_of k a x r → 0 < d → d < a.period → worst_of k a x (r + d) ≡ 0
worst_apart Completed a x r d h p l =
    pick_zero (ltb (r + d) x) (every a.period a.execution (r + d)) (every_apart a.period a.execution r d (pick_pos (ltb r x) (every a.period a.execution r) h).1 p l)
worst_apart Aborted a x r d h p l = refl
worst_apart New a x r d h p l =
    let g = pick_pos (leb (x + a.offset) r) (every a.period a.execution (r - (x + a.offset))) h in
    let m : x + a.offset ≤ r = leb-true (x + a.offset) r g.0 in
    let e : r + d - (x + a.offset) ≡ r - (x + a.offset) + d = omega arith in
    pick_zero (leb (x + a.offset) (r + d)) (every a.period a.execution (r + d - (x + a.offset))) (rw e (every_apart a.period a.execution (r - (x + a.offset)) d g.1 p l))

worst_comes : (k : Kind) (a : Task) (x r : ℕ) → 0 < worst_of k a x r → MayCome k x a.offset r
worst_comes Completed a x r h = omega (arith, ltb-true r x (pick_pos (ltb r x) (every a.period a.execution r) h).0)
worst_comes Aborted a x r h = absurd (not-suc-le-zero h)
worst_comes New a x r h = omega (arith, leb-true (x + a.offset) r (pick_pos (leb (x + a.offset) r) (every a.period a.execution (r - (x + a.offset))) h).0)

-- they release what the demand counts
worst_sum : (k : Kind) (a : Task) (x f : ℕ) → 0 < a.period → (k ≡ Aborted → ⊥) → sum f (worst_of k a x) ≡ at_phase k a x f
worst_sum Completed a x f p h =
    sum_cut f x (worst_of Completed a x) (λ u m. rw (le-ltb u x (omega arith)))
    ∙ sum_eq (min f x) (worst_of Completed a x) (every a.period a.execution) (λ u m. rw (lt-ltb u x (omega arith)))
    ∙ every_sum a.period a.execution p (min f x)
worst_sum Aborted a x f p h = absurd (h refl)
worst_sum New a x f p h =
    sum_late f y (worst_of New a x) (λ u m. rw (lt-leb y u (omega arith)))
    ∙ sum_eq (f - y) (λ k. worst_of New a x (y + k)) (every a.period a.execution) (λ k m. rw (le-leb y (y + k) (omega arith)) (ap (every a.period a.execution) (let e : y + k - y ≡ k = omega arith in e)))
    ∙ every_sum a.period a.execution p (f - y)
    ∙ ap (jobs a) (let e : f - y ≡ f - x - a.offset = omega arith in e)
  where
    y : ℕ
    y = x + a.offset

-- the request at x, and these releases of the tasks of i's level
module _ (n : ℕ) (tk : ℕ → Task) (i x : ℕ) where
  unfoldable pub worst_need : ℕ → ℕ → ℕ
  worst_need j r = pick (in_level tk i j) (worst_of (kind_of (tk j)) (tk j) x r)

  unfoldable pub worst_run : Run
  worst_run = built n tk x worst_need

module _ (n : ℕ) (tk : ℕ → Task) (G : Sound n tk) (i x : ℕ) (l : i < n) (px : 0 < x) where
  abbrev R : Run
  R = worst_run n tk i x

  worst_releases : Releases n tk R
  unfolding worst_run built worst_need
  worst_releases = record {
    fits = λ j r m. omega (arith, pick_below (in_level tk i j) (worst_of (kind_of (tk j)) (tk j) x r) (tk j).execution (worst_fits (kind_of (tk j)) (tk j) x r));
    apart = λ j r d m h p v. pick_zero (in_level tk i j) (worst_of (kind_of (tk j)) (tk j) x (r + d))
        (worst_apart (kind_of (tk j)) (tk j) x r d (pick_pos (in_level tk i j) (worst_of (kind_of (tk j)) (tk j) x r) (omega arith)).1 p (omega arith));
    comes = λ j r m h. worst_comes (kind_of (tk j)) (tk j) x r (pick_pos (in_level tk i j) (worst_of (kind_of (tk j)) (tk j) x r) (omega arith)).1;
  }

  worst_schedule : Preemptive n tk R
  unfolding worst_run
  worst_schedule = built_schedule n tk G x (worst_need n tk i x)

  first_job : kind_of (tk i) ≡ Completed → R.need i 0 ≡ (tk i).execution
  unfolding worst_run built worst_need every
  first_job ki = rw (le-leb (rank (tk i)) (rank (tk i)) (le_refl (rank (tk i))), ki, lt-ltb 0 x px, zero-mod (tk i).period)

  above_work : (j f : ℕ) → j < n → rank (tk j) < rank (tk i) → (kind_of (tk j) ≡ Aborted → ⊥) → work R j f ≡ at_phase (kind_of (tk j)) (tk j) x f
  unfolding worst_run built worst_need work
  above_work j f m h k =
      sum_eq f (λ r. worst_need n tk i x j r) (worst_of (kind_of (tk j)) (tk j) x) (λ r v. rw (le-leb (rank (tk j)) (rank (tk i)) (omega arith)))
      ∙ worst_sum (kind_of (tk j)) (tk j) x f (G.period j m) k

  -- the first job of i ends at no tick before one at which the window closes
  not_before : kind_of (tk i) ≡ Completed → NoAbortedAbove n tk i → (t : ℕ) → Ended R i 0 t
      → (f : ℕ) × (0 < f) × (f ≤ t) × (demand_phase n tk i x f ≤ f)
  not_before ki clear t e =
      let w = waited n tk R G worst_schedule i 0 0 t l (λ j u m v. absurd (omega arith)) (λ j u m h v. others_present (kind_of (tk j)) R.request u (clear j m h))
      (omega (arith, first_job ki, G.execution i l)) e in (
        w.0,
        w.1,
        w.2,
        omega (
          arith,
          w.3,
          first_job ki,
          above_le n tk i (λ j. at_phase (kind_of (tk j)) (tk j) x w.0) (λ j. work R j w.0) (λ j m h. omega (arith, above_work j w.0 m h (clear j m h))),
        ),
      )

  pub worst_run_lem : IsRun n tk (worst_run n tk i x)
  unfolding worst_run
  worst_run_lem = built_run n tk G x (worst_need n tk i x) worst_releases

  pub worst_job : kind_of (tk i) ≡ Completed → Job (worst_run n tk i x) i 0
  worst_job ki = omega (arith, first_job ki, G.execution i l)

  -- where that job has ended after the least t that closes, it takes just that
  pub reached : (t : ℕ) → kind_of (tk i) ≡ Completed → NoAbortedAbove n tk i → ((u : ℕ) → 0 < u → demand_phase n tk i x u ≤ u → t ≤ u)
      → Ended (worst_run n tk i x) i 0 (0 + t) → Reached n tk i t
  reached t ki clear least ends = record {
    run = R;
    is_run = worst_run_lem;
    release = 0;
    is_job = worst_job ki;
    takes = record {
      ends = ends;
      not_sooner = λ u h. elim (dec_lt (service R i 0 (0 + u)) (R.need i 0)) [
        | yes d ↦ d
        | no d ↦
            let f = not_before ki clear (0 + u) (omega (arith, service_le n tk R worst_schedule.pending i 0 (0 + u))) in
            absurd (omega (arith, least f.0 f.1 f.3))
      ];
    };
  }
