-- A list of entries and its tasks: either says the other, and a list passes exactly if its tasks keep the rules and are small.
use Prim.Native.Nat.{ℕ, zero, suc, ◌+◌, ◌*◌, ◌/◌, ◌%◌, ◌-◌, ◌≤◌, ◌<◌}
use mathlib.Core.Path.{◌≡◌, refl, sym, ap, subst, ◌∙◌}
use mathlib.Core.Bool.{true, ◌&&◌}
use mathlib.Core.List.{List, [], ◌++◌, append-nil, flat_map}
use native.Mathlib.Omega.{arith}
use lib.Dec.{leb}
use lib.ListN.{length, get_or, take, drop, length-take, length-drop}
use lib.Seq.{take-add, take-length}
use borrow.Author.Tests.{eqb-true, leb-true, not-false, eq-eqb, le-leb}
use Rattle.base.specs.Lists.{up_to}
use Rattle.base.proofs.Lists.{up_length, up_at, up_same, up_list, flat_length, flat_one, flat_part, and_left, and_right}
use Rattle.block.specs.declared.Task.{Task}
use Rattle.std.specs.Prelude.{Ok}
use Rattle.block.specs.Format.{block_size, list_size, most_tasks}
use Rattle.block.specs.Record.{task_from, numbers_of}
use Rattle.block.specs.Answers.{refusal, first_of}
use Rattle.block.specs.Checks.{number_checks, no_task}
use Rattle.block.specs.Block.{list_of, numbers_part, tasks_from, tasks_of, each_entry, each_double, list_head, list_verdict, block_of, wrote, write_of}
use Rattle.block.specs.Legal.{Rules, Legal, Small, AllSmall}
use Rattle.block.proofs.Verdicts.{refuse_passed, first_on, first_left, first_right, first_at, each_all}
use Rattle.block.proofs.Reading.{task_rules, other_number, other_priority}
use Rattle.layout.proofs.Entries.{entry_long, entry_says, entry_again, entry_task, entries_small, entry_passes}
use Rattle.layout.proofs.Legal.{legal_task, legal_doubles}

-- ---- either says the other

module _ (xs : List Task) where
  pub list_length : length (list_of xs) ≡ list_size * length xs
  list_length = flat_length numbers_of list_size entry_long xs

  sized : length (list_of xs) / list_size ≡ length xs
  sized = omega (arith, list_length)

  numbers_again : (k : ℕ) → k < length xs → numbers_part (list_of xs) k ≡ numbers_of (get_or xs k no_task)
  numbers_again k h =
      let w : list_size * k + list_size - list_size * k ≡ list_size = omega arith in
      rw (w, ← append-nil (list_of xs)) (flat_part numbers_of list_size entry_long xs [] k no_task h)

  pub tasks_again : tasks_of (list_of xs) ≡ xs
  tasks_again =
      rw sized (up_same (λ k. task_from (numbers_part (list_of xs) k)) (λ k. get_or xs k no_task) (length xs)
      (λ k h. ap task_from (numbers_again k h) ∙ entry_says (get_or xs k no_task))
      ∙ up_list xs no_task (length xs) (omega arith)
      ∙ take-length xs)

pub list_again : (l : List ℕ) (n : ℕ) → list_size * n ≤ length l → list_of (tasks_from l n) ≡ take (list_size * n) l
unfolding up_to flat_map
list_again l zero h = refl
list_again l (suc n) h =
    let m : list_size * suc n ≡ list_size * n + list_size = omega arith in
    let w : list_size * n + list_size - list_size * n ≡ list_size = omega arith in
    flat_one numbers_of (tasks_from l n) (task_from (numbers_part l n)) ∙ rw (list_again l n (omega arith), m, take-add (list_size * n) list_size l, w) (ap (λ (z : List ℕ). take (list_size * n) l ++ z) (entry_again (take list_size (drop (list_size * n) l)) (simp (length-take, length-drop) (omega arith))))

-- ---- a head that passes

module _ (side size room : ℕ) (passed : first_of (list_head side size room) ≡ Ok tt) where
  at : (k : ℕ) → get_or (list_head side size room) k (Ok tt) ≡ Ok tt
  at k = first_at (list_head side size room) passed k

  pub list_room : room ≡ block_size
  unfolding list_head
  list_room = eqb-true room block_size (not-false _ (refuse_passed _ (refusal 1 side 0) (at 0)))

  pub list_whole : size ≡ list_size * (size / list_size)
  unfolding list_head
  list_whole = omega (arith, eqb-true (size % list_size) 0 (not-false _ (refuse_passed _ (refusal 11 2 0) (at 1))))

  sided : leb side 1 && leb (size / list_size) most_tasks ≡ true
  unfolding list_head
  sided = not-false _ (refuse_passed _ (refusal 4 side 0) (at 2))

  pub list_side : side ≤ 1
  list_side = leb-true side 1 (and_left _ (leb (size / list_size) most_tasks) sided)

  pub list_few : size / list_size ≤ most_tasks
  list_few = leb-true (size / list_size) most_tasks (and_right (leb side 1) _ sided)

-- ---- a list that passes

-- the tasks of entries that pass are small
pub list_small : (side : ℕ) (l : List ℕ) (n : ℕ) → length l ≡ list_size * n → first_of (each_entry side l n) ≡ Ok tt → AllSmall (tasks_from l n)
list_small side l n e passed k h =
    let f : ℕ → Task = λ k. task_from (numbers_part l k) in
    let m : k < n = omega (arith, up_length f n) in
    subst (λ (x : Task). Small x) (sym (up_at f n k no_task m)) (entries_small side l n passed e k m)

module _ (side : ℕ) (l : List ℕ) (room : ℕ) (passed : list_verdict side l room ≡ Ok tt) where
  fronts : first_of (list_head side (length l) room ++ each_entry side l (length l / list_size)) ≡ Ok tt
  unfolding list_verdict
  fronts = first_left _ (each_double side (tasks_of l)) passed

  pub list_head_lem : first_of (list_head side (length l) room) ≡ Ok tt
  list_head_lem = first_left _ (each_entry side l (length l / list_size)) fronts

  pub list_entries : first_of (each_entry side l (length l / list_size)) ≡ Ok tt
  list_entries = first_right (list_head side (length l) room) _ fronts

  list_doubles : first_of (each_double side (tasks_of l)) ≡ Ok tt
  unfolding list_verdict
  list_doubles = first_right (list_head side (length l) room ++ each_entry side l (length l / list_size)) _ passed

  -- its tasks keep the rules
  pub list_legal : Legal side (tasks_of l)
  list_legal = record {
    few = omega (arith, long, list_few side (length l) room list_head_lem);
    rules = λ k h. subst (λ (x : Task). Rules side x) (sym (up_at f n k no_task (omega (arith, long)))) (task_rules side k (f k) (entry_task side l n list_entries k (omega (arith, long))));
    numbers = other_number side (tasks_of l) list_doubles;
    priorities = other_priority side (tasks_of l) list_doubles;
  }
    where
      n : ℕ
      n = length l / list_size

      f : ℕ → Task
      f k = task_from (numbers_part l k)

      long : length (tasks_of l) ≡ n
      long = up_length f n

-- ---- the list of tasks that keep the rules and are small passes

module _ (side : ℕ) (xs : List Task) (one : side ≤ 1) (legal : Legal side xs) (small : AllSmall xs) where
  head_passes : (l : List ℕ) → length l ≡ list_size * length xs → first_of (list_head side (length l) block_size) ≡ Ok tt
  unfolding first_of list_head
  head_passes l e =
      simp (eq-eqb (length l % list_size) 0 (omega arith), le-leb side 1 one, le-leb (length l / list_size) most_tasks (omega (arith, legal.few)))

  entries_pass : first_of (each_entry side (list_of xs) (length xs)) ≡ Ok tt
  entries_pass = each_all (λ k. first_of (number_checks side k (numbers_part (list_of xs) k))) (length xs) (λ k h. rw (numbers_again xs k h) (entry_passes side k (get_or xs k no_task) (small k h) (legal_task side xs legal one k h)))

  pub legal_list : list_verdict side (list_of xs) block_size ≡ Ok tt
  unfolding list_verdict
  legal_list =
      first_on (list_head side (length (list_of xs)) block_size ++ each_entry side (list_of xs) (length (list_of xs) / list_size)) (each_double side (tasks_of (list_of xs)))
      (first_on _ _ (head_passes (list_of xs) (list_length xs)) ∙ rw (sized xs) entries_pass)
      ∙ rw (tasks_again xs) (legal_doubles side xs legal)

  -- the writer takes it
  pub legal_written : (mode : ℕ) → write_of side mode (list_of xs) block_size ≡ wrote (block_of side mode xs)
  unfolding write_of
  legal_written mode = rw (legal_list, tasks_again xs)
