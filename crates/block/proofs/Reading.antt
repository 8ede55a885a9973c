-- What a block that reads tells: its length and count, and that its tasks keep the rules.
use Prim.Native.Nat.{ℕ, ◌≤◌, ◌<◌}
use mathlib.Core.Path.{◌≡◌, refl, sym, ap, subst}
use mathlib.Core.Bool.{true, false, not, ◌&&◌}
use mathlib.Core.List.{List}
use native.Mathlib.Omega.{arith}
use lib.Dec.{eqb, ltb}
use lib.ListN.{length, get_or, take}
use lib.Seq.{get_or-take, length-take-le}
use borrow.Author.Tests.{eqb-true, eqb-false, ltb-true, ltb-false, eq-eqb, ne_eqb, not-false}
use Rattle.base.proofs.Lists.{up_length, up_at, any_not, or_left, or_right}
use Rattle.block.specs.declared.Task.{Task}
use Rattle.block.specs.Answers.{Verdict, refusal, first_of}
use Rattle.std.specs.Prelude.{Ok, Err}
use Rattle.block.specs.Format.{block_size, most_tasks}
use Rattle.block.specs.Record.{task_of}
use Rattle.block.specs.Checks.{kind_on, task_checks, record_checks, alike, double_check, no_task}
use Rattle.block.specs.Block.{record_part, tasks_in, count_byte, mode_number, head_checks, each_record, each_double, body_checks, block_verdict, holds, reading, reading_of}
use Rattle.block.specs.Legal.{Rules, Legal}
use Rattle.block.proofs.Verdicts.{refuse_passed, first_left, first_right, first_at, each_at}
use Rattle.block.proofs.Heads.{head_length, head_headed, headed_side, headed_count}

-- ---- the rules of a task that passes

module _ (side k : ℕ) (x : Task) (passed : first_of (task_checks side k x) ≡ Ok tt) where
  at : (i : ℕ) → get_or (task_checks side k x) i (Ok tt) ≡ Ok tt
  at i = first_at (task_checks side k x) passed i

  kind_passed : kind_on side x.kind ≡ true
  unfolding task_checks
  kind_passed = not-false _ (refuse_passed _ (refusal 5 side k) (at 0))

  kind_old : side ≡ 0 → x.kind < 2
  unfolding kind_on
  kind_old e = ltb-true x.kind 2 (rw (eq-eqb side 0 e) at kind_passed)

  kind_new : side ≡ 1 → x.kind ≡ 2
  unfolding kind_on
  kind_new e = eqb-true x.kind 2 (rw (ne_eqb side 0 (λ z. omega arith)) at kind_passed)

  pub task_rules : Rules side x
  unfolding task_checks
  task_rules = record {
    old = kind_old;
    new = kind_new;
    period = omega (arith, eqb-false x.period 0 (refuse_passed _ (refusal 5 side k) (at 1)));
    execution = omega (arith, eqb-false x.execution 0 (or_left _ (ltb x.deadline x.execution) (refuse_passed _ (refusal 5 side k) (at 2))));
    in_deadline = ltb-false x.deadline x.execution (or_right (eqb x.execution 0) _ (refuse_passed _ (refusal 5 side k) (at 2)));
    in_period = ltb-false x.period x.deadline (refuse_passed _ (refusal 5 side k) (at 3));
    offset = λ e. eqb-true x.offset 0 (not-false _ (rw (eq-eqb side 0 e) at (refuse_passed (eqb side 0 && not (eqb x.offset 0)) (refusal 5 side k) (at 4))));
  }

-- ---- no two alike

module _ (side : ℕ) (xs : List Task) (passed : first_of (each_double side xs) ≡ Ok tt) where
  unlike : (j k : ℕ) → j < k → k < length xs → alike (get_or xs j no_task) (get_or xs k no_task) ≡ false
  unlike j k h l =
      rw (get_or-take k xs j no_task h) at (any_not (λ y. alike y (get_or xs k no_task)) (take k xs) j no_task
      (refuse_passed _ (refusal 6 side k) (each_at (double_check side xs) (length xs) k l passed)) (omega (arith, length-take-le k xs (omega arith))))

  pub other_number : (j k : ℕ) → j < k → k < length xs → (get_or xs j no_task).number ≡ (get_or xs k no_task).number → ⊥
  unfolding alike
  other_number j k h l = eqb-false _ _ (or_left _ (eqb (get_or xs j no_task).priority (get_or xs k no_task).priority) (unlike j k h l))

  pub other_priority : (j k : ℕ) → j < k → k < length xs → (get_or xs j no_task).priority ≡ (get_or xs k no_task).priority → ⊥
  unfolding alike
  other_priority j k h l = eqb-false _ _ (or_right (eqb (get_or xs j no_task).number (get_or xs k no_task).number) _ (unlike j k h l))

-- ---- a block that passes

pub tasks_length : (b : List ℕ) (n : ℕ) → length (tasks_in b n) ≡ n
tasks_length b n = up_length (λ k. task_of (record_part b k)) n

module _ (side : ℕ) (b : List ℕ) (passed : block_verdict side b ≡ Ok tt) where
  pub block_head : first_of (head_checks side b) ≡ Ok tt
  unfolding block_verdict
  block_head = first_left (head_checks side b) (body_checks side b (count_byte b)) passed

  pub block_body : first_of (body_checks side b (count_byte b)) ≡ Ok tt
  unfolding block_verdict
  block_body = first_right (head_checks side b) (body_checks side b (count_byte b)) passed

  pub block_length : length b ≡ block_size
  block_length = head_length side b block_head

  pub block_side : side ≤ 1
  block_side = headed_side side b (head_headed side b block_head)

  pub block_count : count_byte b ≤ most_tasks
  block_count = headed_count side b (head_headed side b block_head)

  pub block_records : first_of (each_record side b (count_byte b)) ≡ Ok tt
  block_records = first_left _ (each_double side (tasks_in b (count_byte b))) (first_left _ _ block_body)

  pub block_doubles : first_of (each_double side (tasks_in b (count_byte b))) ≡ Ok tt
  block_doubles = first_right (each_record side b (count_byte b)) _ (first_left _ _ block_body)

  -- each task passes the rules of its own
  pub block_task : (xs : List Task) → xs ≡ tasks_in b (count_byte b) → (k : ℕ) → k < length xs → first_of (task_checks side k (get_or xs k no_task)) ≡ Ok tt
  block_task xs e k h =
      let l : k < count_byte b = omega (arith, ap length e, tasks_length b (count_byte b)) in
      rw (e, up_at (λ k. task_of (record_part b k)) (count_byte b) k no_task l)
      (first_left (task_checks side k (task_of (record_part b k))) _ (each_at (λ k. first_of (record_checks side k (record_part b k))) (count_byte b) k l block_records))

  pub block_legal : Legal side (tasks_in b (count_byte b))
  block_legal = record {
    few = omega (arith, tasks_length b (count_byte b), block_count);
    rules = λ k h. task_rules side k (get_or (tasks_in b (count_byte b)) k no_task) (block_task (tasks_in b (count_byte b)) refl k h);
    numbers = other_number side (tasks_in b (count_byte b)) block_doubles;
    priorities = other_priority side (tasks_in b (count_byte b)) block_doubles;
  }

-- ---- a block that holds tasks

pub record Held (side : ℕ) (b : List ℕ) (mode : ℕ) (xs : List Task) : Type 0 where
  pub passed : block_verdict side b ≡ Ok tt
  pub mode_is : mode ≡ mode_number b
  pub tasks_are : xs ≡ tasks_in b (count_byte b)

pub reading_held : (side : ℕ) (b : List ℕ) (mode : ℕ) (xs : List Task) → reading_of side b ≡ holds mode xs → Held side b mode xs
unfolding reading_of
reading_held side b mode xs e = go (block_verdict side b) refl e
  where
    go : (v : Verdict) → block_verdict side b ≡ v → reading v b ≡ holds mode xs → Held side b mode xs
    go (Ok u) p q = record { passed = p; mode_is = cc; tasks_are = cc }
    go (Err a) p q = let z : ◌≡◌ {A = ℕ} 0 1 = cc in absurd (omega arith)

pub reading_legal : (side mode : ℕ) (b : List ℕ) (xs : List Task) → reading_of side b ≡ holds mode xs → Legal side xs
reading_legal side mode b xs e =
    let h = reading_held side b mode xs e in
    subst (λ (l : List Task). Legal side l) (sym h.tasks_are) (block_legal side b h.passed)
