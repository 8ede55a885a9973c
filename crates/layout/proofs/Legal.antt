-- Tasks that keep the rules pass every check of tasks.
use Prim.Native.Nat.{ℕ, zero, suc, ◌≤◌, ◌<◌}
use mathlib.Core.Path.{◌≡◌, refl, ap}
use mathlib.Core.Bool.{Bool, false}
use mathlib.Core.List.{List}
use native.Mathlib.Omega.{arith}
use lib.ListN.{length, get_or, take}
use lib.Seq.{get_or-take, length-take-le}
use borrow.Author.Tests.{lt-ltb, eq-eqb, ne_eqb}
use Rattle.base.proofs.Lists.{any_none}
use Rattle.block.specs.declared.Task.{Task}
use Rattle.std.specs.Prelude.{Ok}
use Rattle.block.specs.Answers.{refusal, refuse, first_of}
use Rattle.block.specs.Checks.{kind_on, task_checks, alike, borne_in, double_check, no_task}
use Rattle.block.specs.Block.{each_double}
use Rattle.block.specs.Legal.{Rules, Legal}
use Rattle.block.proofs.Verdicts.{each_all}
use Rattle.block.proofs.Rules.{old_passes, new_passes}

pub rules_pass : (side k : ℕ) (x : Task) → side ≤ 1 → Rules side x → first_of (task_checks side k x) ≡ Ok tt
unfolding kind_on
rules_pass zero k x s r =
    old_passes 0 k x (lt-ltb _ _ (r.old refl)) (λ e. omega (arith, r.period)) (λ e. omega (arith, r.execution)) r.in_deadline r.in_period refl (r.offset refl)
rules_pass (suc zero) k x s r =
    new_passes 1 k x (eq-eqb _ _ (r.new refl)) (λ e. omega (arith, r.period)) (λ e. omega (arith, r.execution)) r.in_deadline r.in_period (λ e. omega arith)
rules_pass (suc (suc n)) k x s r = absurd (omega arith)

module _ (side : ℕ) (xs : List Task) (legal : Legal side xs) where
  pub legal_task : side ≤ 1 → (k : ℕ) → k < length xs → first_of (task_checks side k (get_or xs k no_task)) ≡ Ok tt
  legal_task s k h = rules_pass side k (get_or xs k no_task) s (legal.rules k h)

  unlike : (j k : ℕ) → j < k → k < length xs → alike (get_or xs j no_task) (get_or xs k no_task) ≡ false
  unfolding alike
  unlike j k l h = rw (ne_eqb _ _ (legal.numbers j k l h)) (ne_eqb _ _ (legal.priorities j k l h))

  none : (k : ℕ) → k < length xs → borne_in (get_or xs k no_task) (take k xs) ≡ false
  none k h =
      any_none (λ y. alike y (get_or xs k no_task)) (take k xs) no_task
      (λ j l. let m : j < k = omega (arith, length-take-le k xs (omega arith)) in rw (get_or-take k xs j no_task m) (unlike j k m h))

  pub legal_doubles : first_of (each_double side xs) ≡ Ok tt
  legal_doubles = each_all (double_check side xs) (length xs) (λ k h. ap (λ (t : Bool). refuse t (refusal 6 side k)) (none k h))
