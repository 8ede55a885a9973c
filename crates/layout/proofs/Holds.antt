-- The block of tasks that keep the rules reads as those tasks.
use Prim.Native.Nat.{ℕ, ◌+◌, ◌%◌, ◌-◌, ◌≤◌, ◌<◌}
use mathlib.Core.Path.{◌≡◌, refl, sym, ap, subst, ◌∙◌}
use mathlib.Core.Bool.{Bool, true, not}
use mathlib.Core.List.{List, ◌++◌, append_assoc, flat_map}
use native.Mathlib.Omega.{arith}
use lib.ListN.{length, get_or, replicate, length-replicate}
use lib.Seq.{take_at, drop_at, get_or-append-add}
use borrow.Author.Tests.{eq-eqb, le-leb}
use Rattle.base.specs.Lists.{part, every}
use Rattle.block.specs.declared.Task.{Task}
use Rattle.std.specs.Prelude.{Ok}
use Rattle.block.specs.Format.{record_size, zero_place, most_tasks, check_place, check_words, record_place}
use Rattle.block.specs.Record.{word_at, word_bytes, all_zero, task_of, record_of}
use Rattle.block.specs.Answers.{refusal, refuse, first_of}
use Rattle.block.specs.Checks.{task_checks, record_checks, no_task}
use Rattle.block.specs.Block.{record_part, tasks_in, count_byte, mode_number, unused_room, check_of, marked, headed, head_checks, each_record, each_double, block_verdict, holds, reading_of, head_of, body_of, block_of}
use Rattle.block.specs.Legal.{Legal, Small, AllSmall}
use Rattle.block.proofs.Verdicts.{first_on, first_last, each_all}
use Rattle.block.proofs.Heads.{seal_passes, head_passes}
use Rattle.block.proofs.Zeros.{zeros_zero}
use Rattle.layout.proofs.Legal.{legal_task, legal_doubles}
use Rattle.layout.proofs.Written.{head_long, front_long, body_long, block_long, sum_front, record_written, record_says, tasks_written}

-- the last four bytes of a record are zero
ends : (x : Task) → all_zero (part (record_of x) zero_place record_size) ≡ true
unfolding record_of every
ends x = refl

module _ (side mode : ℕ) (xs : List Task) (sided : side ≤ 1) (legal : Legal side xs) (small : AllSmall xs) where
  few : length xs ≤ most_tasks
  few = legal.few

  -- the last word is the check
  check_right : word_at (block_of side mode xs) check_place ≡ check_of (block_of side mode xs)
  unfolding block_of
  check_right = last (body_of side mode xs) (check_of (body_of side mode xs)) (body_long side mode xs few) (omega arith) ∙ sym same
    where
      same : check_of (body_of side mode xs ++ word_bytes (check_of (body_of side mode xs))) ≡ check_of (body_of side mode xs)
      same = ap (λ (s : ℕ). s % 4294967296) (sum_front (body_of side mode xs) (word_bytes (check_of (body_of side mode xs))) check_words (omega (arith, body_long side mode xs few)))

      at : (a c : List ℕ) (i : ℕ) → length a ≡ check_place → get_or (a ++ c) (check_place + i) 0 ≡ get_or c i 0
      at a c i e = subst (λ (n : ℕ). get_or (a ++ c) (n + i) 0 ≡ get_or c i 0) e (get_or-append-add a c i 0)

      last : (a : List ℕ) (s : ℕ) → length a ≡ check_place → s < 4294967296 → word_at (a ++ word_bytes s) check_place ≡ s
      last a s e h = omega (arith, at a (word_bytes s) 0 e, at a (word_bytes s) 1 e, at a (word_bytes s) 2 e, at a (word_bytes s) 3 e)

  head_right : headed side (block_of side mode xs) ≡ true
  unfolding headed block_of body_of head_of every
  head_right = simp (le-leb side 1 sided, eq-eqb side side refl, le-leb (length xs) most_tasks few)

  mark_right : marked (block_of side mode xs) ≡ true
  unfolding block_of body_of head_of
  mark_right = refl

  count_right : count_byte (block_of side mode xs) ≡ length xs
  unfolding block_of body_of head_of
  count_right = refl

  mode_right : mode < 65536 → mode_number (block_of side mode xs) ≡ mode
  unfolding block_of body_of head_of
  mode_right h = omega arith

  heads_pass : first_of (head_checks side (block_of side mode xs)) ≡ Ok tt
  heads_pass = head_passes side _ (seal_passes side 0 _ (eq-eqb _ _ (block_long side mode xs few)) (eq-eqb _ _ check_right)) mark_right head_right

  room_zero : all_zero (unused_room (block_of side mode xs) (length xs)) ≡ true
  unfolding block_of body_of
  room_zero =
      let front = head_of side mode (length xs) ++ flat_map record_of xs in
      let size = check_place - record_place (length xs) in
      let rest = word_bytes (check_of (body_of side mode xs)) in
      rw (append_assoc front (replicate {A = ℕ} size 0) rest, drop_at front (replicate size 0 ++ rest) (record_place (length xs)) (front_long (head_of side mode (length xs)) xs (head_long side mode (length xs))), take_at (replicate size 0) rest size (length-replicate size 0))
      (zeros_zero size)

  records_pass : first_of (each_record side (block_of side mode xs) (length xs)) ≡ Ok tt
  records_pass = each_all (λ k. first_of (record_checks side k (record_part (block_of side mode xs) k))) (length xs) (λ k l. rw (record_written side mode xs k l) (one k (get_or xs k no_task) (small k l) (legal_task side xs legal sided k l)))
    where
      one : (k : ℕ) (x : Task) → Small x → first_of (task_checks side k x) ≡ Ok tt → first_of (record_checks side k (record_of x)) ≡ Ok tt
      one k x s e = first_last (task_checks side k (task_of (record_of x))) (refuse (not (all_zero (part (record_of x) zero_place record_size))) (refusal 5 side k)) (Ok tt) (rw (record_says x s) e) (ap (λ (t : Bool). refuse (not t) (refusal 5 side k)) (ends x))

  block_reads : block_verdict side (block_of side mode xs) ≡ Ok tt
  unfolding block_verdict
  block_reads = first_on (head_checks side (block_of side mode xs)) _ heads_pass ∙ rw count_right (first_last (each_record side (block_of side mode xs) (length xs) ++ each_double side (tasks_in (block_of side mode xs) (length xs))) _ (Ok tt) (first_on (each_record side (block_of side mode xs) (length xs)) _ records_pass ∙ rw (tasks_written side mode xs small) (legal_doubles side xs legal)) (ap (λ (t : Bool). refuse (not t) (refusal 7 side 0)) room_zero))

  pub block_holds : mode < 65536 → reading_of side (block_of side mode xs) ≡ holds mode xs
  unfolding reading_of
  block_holds h = rw (block_reads, mode_right h, count_right, tasks_written side mode xs small)
