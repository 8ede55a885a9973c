-- A block that reads is the block of the tasks that it holds, byte by byte, and their fields are small.
use Prim.Native.Nat.{ℕ, zero, suc, ◌+◌, ◌*◌, ◌/◌, ◌%◌, ◌-◌, ◌≤◌, ◌<◌}
use mathlib.Core.Path.{◌≡◌, refl, sym, ap, subst, ◌∙◌}
use mathlib.Core.Bool.{true, not, ◌&&◌}
use mathlib.Core.List.{List, [], ◌∷◌, ◌++◌, append_assoc, flat_map}
use native.Mathlib.Omega.{arith}
use lib.Dec.{eqb, leb}
use lib.ListN.{length, get_or, take, drop, replicate, length-take, length-drop, take-append-drop}
use lib.Seq.{take_all, take-add, drop-drop, get_or-take, get_or-drop}
use borrow.Author.Tests.{eqb-true, not-false}
use Rattle.base.specs.Lists.{part, up_to}
use Rattle.base.proofs.Lists.{up_length, up_at, up_list, every_at, flat_one, and_left, and_right}
use Rattle.block.specs.declared.Task.{Task}
use Rattle.std.specs.Prelude.{Ok}
use Rattle.block.specs.Format.{block_size, head_size, record_size, zero_place, most_tasks, check_place, check_words, record_place, mark_first, mark_second}
use Rattle.block.specs.Record.{byte_at, half_at, word_at, word_bytes, all_zero, task_of, record_of}
use Rattle.block.specs.Answers.{refusal, refuse, first_of}
use Rattle.block.specs.Checks.{task_checks, record_checks, no_task}
use Rattle.block.specs.Block.{record_part, tasks_in, count_byte, mode_number, side_byte, unused_room, word_sum, check_of, marked, headed, head_checks, each_record, each_double, block_verdict, holds, reading_of, head_of, body_of, block_of}
use Rattle.block.specs.Legal.{Small, AllSmall, Bytes}
use Rattle.block.proofs.Verdicts.{refuse_passed, first_at, first_right, each_at}
use Rattle.block.proofs.Heads.{seal_check, headed_own, head_sealed, head_marked, head_headed}
use Rattle.block.proofs.Zeros.{zeros_are}
use Rattle.layout.proofs.Written.{sum_front}
use Rattle.block.proofs.Reading.{Held, reading_held, block_head, block_length, block_count, block_body, block_records}

-- ---- bytes of a half and of a word

module _ (a b : ℕ) (ha : a < 256) (hb : b < 256) where
  low : (a + 256 * b) % 256 ≡ a
  low = omega arith

  high : (a + 256 * b) / 256 % 256 ≡ b
  high = omega arith

-- a part of bytes is bytes
bytes_part : (b : List ℕ) → Bytes b → (from size i : ℕ) → i < size → get_or (take size (drop from b)) i 0 < 256
bytes_part b h from size i l = rw (get_or-take size (drop from b) i 0 l, get_or-drop from b i 0) (h (from + i))

-- ---- a record's bytes, from its task

module _ (r : List ℕ) (long : length r ≡ record_size) (bytes : (i : ℕ) → i < record_size → get_or r i 0 < 256) (zero-end : all_zero (part r zero_place record_size) ≡ true) where
  lows : (i : ℕ) → i + 1 < record_size → half_at r i % 256 ≡ get_or r i 0
  lows i h = low (get_or r i 0) (get_or r (i + 1) 0) (bytes i (omega arith)) (bytes (i + 1) h)

  highs : (i : ℕ) → i + 1 < record_size → half_at r i / 256 % 256 ≡ get_or r (i + 1) 0
  highs i h = high (get_or r i 0) (get_or r (i + 1) 0) (bytes i (omega arith)) (bytes (i + 1) h)

  last : (i : ℕ) → i < record_size - zero_place → 0 ≡ get_or r (zero_place + i) 0
  last i h =
      sym (rw (get_or-take (record_size - zero_place) (drop zero_place r) i 0 h, get_or-drop zero_place r i 0) at (eqb-true (get_or (part r zero_place record_size) i 0) 0 (every_at (λ b. eqb b 0) (part r zero_place record_size) i 0 zero-end (simp (length-take, length-drop) (omega arith)))))

  spelled : record_of (task_of r) ≡ up_to (λ i. get_or r i 0) record_size
  unfolding record_of task_of up_to
  spelled = λ i.
      get_or r 0 0 ∷ get_or r 1 0
      ∷ lows 2 (omega arith) i ∷ highs 2 (omega arith) i
      ∷ lows 4 (omega arith) i ∷ highs 4 (omega arith) i
      ∷ lows 6 (omega arith) i ∷ highs 6 (omega arith) i
      ∷ lows 8 (omega arith) i ∷ highs 8 (omega arith) i
      ∷ lows 10 (omega arith) i ∷ highs 10 (omega arith) i
      ∷ last 0 (omega arith) i ∷ last 1 (omega arith) i ∷ last 2 (omega arith) i ∷ last 3 (omega arith) i ∷ []

  pub record_again : record_of (task_of r) ≡ r
  record_again = spelled ∙ up_list r 0 record_size (omega arith) ∙ take_all record_size r (omega arith)

-- ---- a block's bytes, from its tasks

module _ (side : ℕ) (b : List ℕ) (bytes : Bytes b) (passed : block_verdict side b ≡ Ok tt) where
  heads : first_of (head_checks side b) ≡ Ok tt
  heads = block_head side b passed

  long : length b ≡ block_size
  long = block_length side b passed

  mark : marked b ≡ true
  mark = head_marked side b heads

  checked : word_at b check_place ≡ check_of b
  checked = seal_check side 0 b (head_sealed side b heads)

  six : all_zero (part b 6 head_size) ≡ true
  unfolding headed
  six = and_right (leb side 1 && eqb (side_byte b) side && leb (count_byte b) most_tasks) (all_zero (part b 6 head_size)) (head_headed side b heads)

  zero_at : (i : ℕ) → i < 2 → 0 ≡ get_or b (6 + i) 0
  zero_at i h =
      sym (rw (get_or-take 2 (drop 6 b) i 0 h, get_or-drop 6 b i 0) at (eqb-true (get_or (part b 6 head_size) i 0) 0 (every_at (λ b. eqb b 0) (part b 6 head_size) i 0 six (simp (length-take, length-drop) (omega (arith, long))))))

  head_spelled : head_of side (mode_number b) (count_byte b) ≡ up_to (λ i. get_or b i 0) head_size
  unfolding head_of up_to
  head_spelled = λ i.
      sym (eqb-true (byte_at b 0) mark_first (and_left _ (eqb (byte_at b 1) mark_second) mark)) i
      ∷ sym (eqb-true (byte_at b 1) mark_second (and_right (eqb (byte_at b 0) mark_first) _ mark)) i
      ∷ sym (headed_own side b (head_headed side b heads)) i
      ∷ get_or b 3 0
      ∷ low (get_or b 4 0) (get_or b 5 0) (bytes 4) (bytes 5) i
      ∷ high (get_or b 4 0) (get_or b 5 0) (bytes 4) (bytes 5) i
      ∷ zero_at 0 (omega arith) i
      ∷ zero_at 1 (omega arith) i
      ∷ []

  head_again : head_of side (mode_number b) (count_byte b) ≡ take head_size b
  head_again = head_spelled ∙ up_list b 0 head_size (omega (arith, long))

  pub ended : (k : ℕ) → k < count_byte b → all_zero (part (record_part b k) zero_place record_size) ≡ true
  ended k h =
      not-false _ (refuse_passed _ (refusal 5 side k) (first_at (refuse (not (all_zero (part (record_part b k) zero_place record_size))) (refusal 5 side k) ∷ [])
      (first_right (task_checks side k (task_of (record_part b k))) _ (each_at (λ k. first_of (record_checks side k (record_part b k))) (count_byte b) k h (block_records side b passed))) 0))

  record_same : (k : ℕ) → k < count_byte b → record_of (task_of (record_part b k)) ≡ take record_size (drop (record_place k) b)
  record_same k h =
      let w : record_place k + record_size - record_place k ≡ record_size = omega arith in
      let e : record_part b k ≡ take record_size (drop (record_place k) b) = rw w in
      ap (λ (r : List ℕ). record_of (task_of r)) e
      ∙ record_again (take record_size (drop (record_place k) b))
      (simp (length-take, length-drop) (omega (arith, long, block_count side b passed)))
      (λ i l. bytes_part b bytes (record_place k) record_size i l)
      (subst (λ (r : List ℕ). all_zero (part r zero_place record_size) ≡ true) e (ended k h))

  records_again : (k : ℕ) → k ≤ count_byte b → flat_map record_of (tasks_in b k) ≡ take (record_size * k) (drop head_size b)
  unfolding up_to flat_map
  records_again zero h = refl
  records_again (suc k) h =
      let m : record_size * suc k ≡ record_size * k + record_size = omega arith in
      flat_one record_of (tasks_in b k) (task_of (record_part b k))
      ∙ rw (records_again k (omega arith), record_same k (omega arith), m, take-add (record_size * k) record_size (drop head_size b), drop-drop (record_size * k) head_size b)

  room_again : replicate (check_place - record_place (count_byte b)) 0 ≡ unused_room b (count_byte b)
  room_again =
      let l : length (unused_room b (count_byte b)) ≡ check_place - record_place (count_byte b) = simp (length-take, length-drop) (omega (arith, long)) in
      sym (zeros_are (unused_room b (count_byte b)) free ∙ rw l)
    where
      free : all_zero (unused_room b (count_byte b)) ≡ true
      free =
          not-false _ (refuse_passed _ (refusal 7 side 0) (first_at (refuse (not (all_zero (unused_room b (count_byte b)))) (refusal 7 side 0) ∷ [])
          (first_right (each_record side b (count_byte b) ++ each_double side (tasks_in b (count_byte b))) _ (block_body side b passed)) 0))

  body_again : body_of side (mode_number b) (tasks_in b (count_byte b)) ≡ take check_place b
  unfolding body_of
  body_again =
      let n = count_byte b in
      let l : length (tasks_in b n) ≡ n = up_length (λ k. task_of (record_part b k)) n in
      let m : check_place ≡ head_size + (record_size * n + (check_place - record_place n)) = omega (arith, block_count side b passed) in
      rw (l, head_again, records_again n (omega arith), room_again)
      (append_assoc (take head_size b) (take (record_size * n) (drop head_size b)) (unused_room b n)
      ∙ sym (ap (λ (k : ℕ). take k b) m ∙ take-add head_size (record_size * n + (check_place - record_place n)) b
      ∙ ap (λ (z : List ℕ). take head_size b ++ z) (take-add (record_size * n) (check_place - record_place n) (drop head_size b)
      ∙ ap (λ (z : List ℕ). take (record_size * n) (drop head_size b) ++ take (check_place - record_place n) z) (drop-drop (record_size * n) head_size b))))

  -- the last four bytes are those of the check
  check_spelled : word_bytes (word_at b check_place) ≡ up_to (λ i. get_or (drop check_place b) i 0) 4
  unfolding up_to
  check_spelled = λ i. first i ∷ second i ∷ third i ∷ fourth i ∷ []
    where
      at : (i : ℕ) → get_or (drop check_place b) i 0 ≡ get_or b (check_place + i) 0
      at i = get_or-drop check_place b i 0

      first : word_at b check_place % 256 ≡ get_or (drop check_place b) 0 0
      first = omega (arith, at 0, bytes check_place, bytes (check_place + 1), bytes (check_place + 2), bytes (check_place + 3))

      second : word_at b check_place / 256 % 256 ≡ get_or (drop check_place b) 1 0
      second = omega (arith, at 1, bytes check_place, bytes (check_place + 1), bytes (check_place + 2), bytes (check_place + 3))

      third : word_at b check_place / 65536 % 256 ≡ get_or (drop check_place b) 2 0
      third = omega (arith, at 2, bytes check_place, bytes (check_place + 1), bytes (check_place + 2), bytes (check_place + 3))

      fourth : word_at b check_place / 65536 / 256 % 256 ≡ get_or (drop check_place b) 3 0
      fourth = omega (arith, at 3, bytes check_place, bytes (check_place + 1), bytes (check_place + 2), bytes (check_place + 3))

  check_again : word_bytes (check_of b) ≡ drop check_place b
  check_again =
      let l : length (drop check_place b) ≡ 4 = simp length-drop (omega (arith, long)) in
      ap word_bytes (sym checked) ∙ check_spelled ∙ up_list (drop check_place b) 0 4 (omega arith) ∙ take_all 4 (drop check_place b) (omega arith)

  pub block_again : block_of side (mode_number b) (tasks_in b (count_byte b)) ≡ b
  unfolding block_of
  block_again =
      let same : check_of (take check_place b) ≡ check_of b = ap (λ (s : ℕ). s % 4294967296) (sym (sum_front (take check_place b) (drop check_place b) check_words (simp length-take (omega (arith, long)))) ∙ ap (λ (l : List ℕ). word_sum l check_words) (take-append-drop check_place b)) in
      rw (body_again, same, check_again) (take-append-drop check_place b)

-- ---- a block that holds tasks

record_small : (r : List ℕ) → ((i : ℕ) → i < record_size → get_or r i 0 < 256) → Small (task_of r)
unfolding task_of
record_small r h = record {
  kind = h 0 (omega arith);
  priority = h 1 (omega arith);
  number = half 2 (omega arith);
  period = half 4 (omega arith);
  deadline = half 6 (omega arith);
  execution = half 8 (omega arith);
  offset = half 10 (omega arith);
}
  where
    half : (i : ℕ) → i + 1 < record_size → half_at r i < 65536
    half i l = omega (arith, h i (omega arith), h (i + 1) l)

module _ (side mode : ℕ) (b : List ℕ) (xs : List Task) (bytes : Bytes b) (e : reading_of side b ≡ holds mode xs) where
  held : Held side b mode xs
  held = reading_held side b mode xs e

  -- the ranges of the fields of its tasks
  pub reading_small : AllSmall xs
  reading_small k h =
      let f : ℕ → Task = λ k. task_of (record_part b k) in
      let l : k < count_byte b = omega (arith, ap length held.tasks_are, up_length f (count_byte b)) in
      subst (λ (x : Task). Small x) (sym (ap (λ (zs : List Task). get_or zs k no_task) held.tasks_are ∙ up_at f (count_byte b) k no_task l))
      (record_small (record_part b k) (λ i m. bytes_part b bytes (record_place k) (record_place k + record_size - record_place k) i (omega arith)))

  -- it is the block of its tasks
  pub reading_again : block_of side mode xs ≡ b
  reading_again = rw (held.mode_is, held.tasks_are) (block_again side b bytes held.passed)
