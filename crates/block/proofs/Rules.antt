-- The ways out of the rules of a task.
use Prim.Native.Nat.{ℕ, ◌≤◌, ◌<◌}
use mathlib.Core.Path.{◌≡◌}
use mathlib.Core.Bool.{true, false}
use borrow.Author.Tests.{eq-eqb, ne_eqb, lt-ltb, le-ltb}
use Rattle.block.specs.declared.Task.{Task}
use Rattle.std.specs.Prelude.{Ok, Err}
use Rattle.block.specs.Answers.{refusal, first_of}
use Rattle.block.specs.Checks.{kind_on, task_checks}

module _ (side k : ℕ) (x : Task) where
  pub wrong_kind : kind_on side x.kind ≡ false → first_of (task_checks side k x) ≡ Err (refusal 5 side k)
  unfolding first_of task_checks
  wrong_kind e = rw e

  module _ (kind : kind_on side x.kind ≡ true) where
    pub no_period : x.period ≡ 0 → first_of (task_checks side k x) ≡ Err (refusal 5 side k)
    unfolding first_of task_checks
    no_period e = rw (kind, eq-eqb _ _ e)

    module _ (period : x.period ≡ 0 → ⊥) where
      pub no_execution : x.execution ≡ 0 → first_of (task_checks side k x) ≡ Err (refusal 5 side k)
      unfolding first_of task_checks
      no_execution e = rw (kind, ne_eqb _ _ period, eq-eqb _ _ e)

      module _ (execution : x.execution ≡ 0 → ⊥) where
        pub past_deadline : x.deadline < x.execution → first_of (task_checks side k x) ≡ Err (refusal 5 side k)
        unfolding first_of task_checks
        past_deadline h = rw (kind, ne_eqb _ _ period, ne_eqb _ _ execution, lt-ltb _ _ h)

        module _ (in_deadline : x.execution ≤ x.deadline) where
          pub past_period : x.period < x.deadline → first_of (task_checks side k x) ≡ Err (refusal 5 side k)
          unfolding first_of task_checks
          past_period h = rw (kind, ne_eqb _ _ period, ne_eqb _ _ execution, le-ltb _ _ in_deadline, lt-ltb _ _ h)

module _ (side k : ℕ) (x : Task) (kind : kind_on side x.kind ≡ true) (period : x.period ≡ 0 → ⊥) (execution : x.execution ≡ 0 → ⊥) (in_deadline : x.execution ≤ x.deadline) (in_period : x.deadline ≤ x.period) where
  pub old_offset : side ≡ 0 → (x.offset ≡ 0 → ⊥) → first_of (task_checks side k x) ≡ Err (refusal 5 side k)
  unfolding first_of task_checks
  old_offset s e = rw (kind, ne_eqb _ _ period, ne_eqb _ _ execution, le-ltb _ _ in_deadline, le-ltb _ _ in_period, eq-eqb _ _ s, ne_eqb _ _ e)

  pub old_passes : side ≡ 0 → x.offset ≡ 0 → first_of (task_checks side k x) ≡ Ok tt
  unfolding first_of task_checks
  old_passes s e = rw (kind, ne_eqb _ _ period, ne_eqb _ _ execution, le-ltb _ _ in_deadline, le-ltb _ _ in_period, eq-eqb _ _ s, eq-eqb _ _ e)

  pub new_passes : (side ≡ 0 → ⊥) → first_of (task_checks side k x) ≡ Ok tt
  unfolding first_of task_checks
  new_passes s = rw (kind, ne_eqb _ _ period, ne_eqb _ _ execution, le-ltb _ _ in_deadline, le-ltb _ _ in_period, ne_eqb _ _ s)
