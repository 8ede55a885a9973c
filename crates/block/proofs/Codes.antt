-- A refusal has a code of 1 or more: code 0 says that a block reads, or that a list was written.
use Prim.Native.Nat.{ℕ, zero, suc, ◌/◌, ◌%◌, ◌≤◌}
use mathlib.Core.Path.{◌≡◌, refl, subst}
use mathlib.Core.Bool.{Bool, true, false, not, ◌&&◌, ◌||◌}
use mathlib.Core.List.{List, [], ◌∷◌, ◌++◌}
use native.Mathlib.Omega.{arith}
use lib.Dec.{eqb, leb, ltb}
use lib.ListN.{length, get_or, take}
use Rattle.base.specs.Lists.{up_to, part}
use Rattle.block.specs.declared.Task.{Task}
use Rattle.block.specs.declared.Answer.{Answer}
use Rattle.block.specs.Answers.{Verdict, refusal, refuse, first_of}
use Rattle.std.specs.Prelude.{Ok, Err}
use Rattle.block.specs.Format.{block_size, record_size, zero_place, check_place, list_size, most_tasks}
use Rattle.block.specs.Checks.{kind_on, task_checks, record_checks, borne_in, double_check, no_task}
use Rattle.block.specs.Record.{word_at, all_zero, task_of, task_from, fits}
use Rattle.block.specs.Block.{record_part, tasks_in, unused_room, count_byte, check_of, marked, headed, seal_checks, head_checks, each_record, each_double, body_checks, room_check, block_verdict, spoilt, reading, reading_of, numbers_part, tasks_of, list_head, list_verdict, block_of, wrote, written, write_of, reply_of, left_of}

-- the answer that a verdict refuses with has one
abbrev pub Coded : Verdict → Type 0
Coded v = (a : Answer) → v ≡ Err a → 1 ≤ a.code

pub coded_passed : Coded (Ok tt)
coded_passed a e = let z : ◌≡◌ {A = ℕ} 0 1 = cc in absurd (omega arith)

pub coded_refused : (b : Answer) → 1 ≤ b.code → Coded (Err b)
coded_refused b h a e = let q : b ≡ a = cc in subst (λ (x : Answer). 1 ≤ x.code) q h

pub coded_if : (t : Bool) (b : Answer) → 1 ≤ b.code → Coded (refuse t b)
coded_if true b h = coded_refused b h
coded_if false b h = coded_passed

coded_none : Coded (first_of [])
unfolding first_of
coded_none = coded_passed

coded_before : (v : Verdict) (vs : List Verdict) → Coded v → Coded (first_of vs) → Coded (first_of (v ∷ vs))
unfolding first_of
coded_before (Ok u) vs p q = q
coded_before (Err a) vs p q = p

pub coded_after : (xs ys : List Verdict) → Coded (first_of xs) → Coded (first_of ys) → Coded (first_of (xs ++ ys))
unfolding first_of
coded_after [] ys p q = q
coded_after (Ok u ∷ xs) ys p q = coded_after xs ys p q
coded_after (Err a ∷ xs) ys p q = p

pub coded_each : (f : ℕ → Verdict) → ((k : ℕ) → Coded (f k)) → (n : ℕ) → Coded (first_of (up_to f n))
unfolding up_to
coded_each f h zero = coded_none
coded_each f h (suc n) = coded_after (up_to f n) (f n ∷ []) (coded_each f h n) (coded_before (f n) [] (h n) coded_none)

-- a test, then more checks
pub coded_test : (t : Bool) (b : Answer) (vs : List Verdict) → 1 ≤ b.code → Coded (first_of vs) → Coded (first_of (refuse t b ∷ vs))
coded_test t b vs h q = coded_before (refuse t b) vs (coded_if t b h) q

module _ (side : ℕ) where
  five : (k : ℕ) (t : Bool) (vs : List Verdict) → Coded (first_of vs) → Coded (first_of (refuse t (refusal 5 side k) ∷ vs))
  five k t vs q = coded_test t (refusal 5 side k) vs (omega arith) q

  task_coded : (k : ℕ) (x : Task) → Coded (first_of (task_checks side k x))
  unfolding task_checks
  task_coded k x =
      five k (not (kind_on side x.kind)) _
      (five k (eqb x.period 0) _
      (five k (eqb x.execution 0 || ltb x.deadline x.execution) _
      (five k (ltb x.period x.deadline) _ (five k (eqb side 0 && not (eqb x.offset 0)) [] coded_none))))

  record_coded : (k : ℕ) (r : List ℕ) → Coded (first_of (record_checks side k r))
  record_coded k r = coded_after (task_checks side k (task_of r)) _ (task_coded k (task_of r)) (five k (not (all_zero (part r zero_place record_size))) [] coded_none)

  double : (xs : List Task) (k : ℕ) → Coded (double_check side xs k)
  double xs k = coded_if (borne_in (get_or xs k no_task) (take k xs)) (refusal 6 side k) (omega arith)

  seal_coded : (place : ℕ) (b : List ℕ) → Coded (first_of (seal_checks side place b))
  unfolding seal_checks
  seal_coded place b =
      coded_test (not (eqb (length b) block_size)) (refusal 1 side place) _ (omega arith)
      (coded_test (not (eqb (word_at b check_place) (check_of b))) (refusal 2 side place) [] (omega arith) coded_none)

  head_coded : (b : List ℕ) → Coded (first_of (head_checks side b))
  unfolding head_checks
  head_coded b =
      coded_after (seal_checks side 0 b) _ (seal_coded 0 b)
      (coded_test (not (marked b)) (refusal 3 side 0) _ (omega arith) (coded_test (not (headed side b)) (refusal 4 side 0) [] (omega arith) coded_none))

  body_coded : (b : List ℕ) (n : ℕ) → Coded (first_of (body_checks side b n))
  body_coded b n =
      coded_after (each_record side b n ++ each_double side xs) (room_check side b n ∷ [])
      (coded_after (each_record side b n) (each_double side xs) (coded_each _ (λ k. record_coded k (record_part b k)) n) (coded_each _ (double xs) (length xs)))
      (coded_test (not (all_zero (unused_room b n))) (refusal 7 side 0) [] (omega arith) coded_none)
    where
      xs : List Task
      xs = tasks_in b n

  block_coded : (b : List ℕ) → Coded (block_verdict side b)
  unfolding block_verdict
  block_coded b = coded_after (head_checks side b) (body_checks side b (count_byte b)) (head_coded b) (body_coded b (count_byte b))

  list_coded : (l : List ℕ) (room : ℕ) → Coded (list_verdict side l room)
  unfolding list_verdict list_head
  list_coded l room =
      coded_after _ (each_double side (tasks_of l))
      (coded_after (list_head side (length l) room) _
      (coded_test (not (eqb room block_size)) (refusal 1 side 0) _ (omega arith)
      (coded_test (not (eqb (length l % list_size) 0)) (refusal 11 2 0) _ (omega arith)
      (coded_test (not (leb side 1 && leb (length l / list_size) most_tasks)) (refusal 4 side 0) [] (omega arith) coded_none)))
      (coded_each _ (λ k. five k (not (fits (numbers_part l k))) _ (task_coded k (task_from (numbers_part l k)))) (length l / list_size)))
      (coded_each _ (double (tasks_of l)) (length (tasks_of l)))

  pub reading_coded : (b : List ℕ) (a : Answer) → reading_of side b ≡ spoilt a → 1 ≤ a.code
  unfolding reading_of
  reading_coded b a e = go (block_verdict side b) (block_coded b) e
    where
      go : (v : Verdict) → Coded v → reading v b ≡ spoilt a → 1 ≤ a.code
      go (Ok u) h q = let z : ◌≡◌ {A = ℕ} 0 1 = cc in absurd (omega arith)
      go (Err x) h q = h a (cc)

  -- the writer answers 0 exactly if it wrote
  pub write_coded : (mode : ℕ) (l : List ℕ) (room : ℕ) (lent : List ℕ) → (reply_of (write_of side mode l room)).code ≡ 0 → write_of side mode l room ≡ wrote (left_of (write_of side mode l room) lent)
  unfolding write_of
  write_coded mode l room lent e = go (list_verdict side l room) (list_coded l room) e
    where
      go : (v : Verdict) → Coded v → (reply_of (written v (block_of side mode (tasks_of l)))).code ≡ 0
          → written v (block_of side mode (tasks_of l)) ≡ wrote (left_of (written v (block_of side mode (tasks_of l))) lent)
      go (Ok u) h q = refl
      go (Err a) h q = absurd (omega (arith, h a refl))
