-- A block written record by record, what its parts are, and that its records say the tasks again.
use Prim.Native.Nat.{ℕ, zero, suc, ◌+◌, ◌*◌, ◌-◌, ◌%◌, ◌/◌, ◌≤◌, ◌<◌}
use mathlib.Core.Path.{◌≡◌, refl, sym, ap, ◌∙◌}
use mathlib.Core.List.{List, ◌++◌, append_assoc, append-nil, flat_map}
use native.Mathlib.Numerals.{add-one}
use native.Mathlib.Omega.{arith}
use lib.ListN.{length, get_or, take, drop, replicate, length-append, length-replicate, replicate-append-replicate, get_or-append}
use lib.Seq.{drop_at, drop-append-add, take-length}
use Rattle.base.specs.Lists.{up_to}
use Rattle.base.proofs.Lists.{up_length, up_same, up_list, put_part, flat_length, flat_one, flat_part}
use Rattle.block.specs.declared.Task.{Task}
use Rattle.block.specs.Format.{block_size, head_size, record_size, most_tasks, check_place, check_words, record_place}
use Rattle.block.specs.Record.{word_at, word_bytes, task_of, record_of}
use Rattle.block.specs.Checks.{no_task}
use Rattle.block.specs.Block.{record_part, tasks_in, word_sum, check_of, head_of, body_of, block_of}
use Rattle.block.specs.Legal.{Small, AllSmall}

-- ---- lengths

pub record_long : (x : Task) → length (record_of x) ≡ record_size
unfolding record_of
record_long x = refl

pub head_long : (side mode n : ℕ) → length (head_of side mode n) ≡ head_size
unfolding head_of
head_long side mode n = refl

records_long : (xs : List Task) → length (flat_map record_of xs) ≡ record_size * length xs
records_long xs = flat_length record_of record_size record_long xs

pub front_long : (head : List ℕ) (xs : List Task) → length head ≡ head_size → length (head ++ flat_map record_of xs) ≡ record_place (length xs)
front_long head xs h = simp length-append (omega (arith, records_long xs))

pub body_long : (side mode : ℕ) (xs : List Task) → length xs ≤ most_tasks → length (body_of side mode xs) ≡ check_place
unfolding body_of
body_long side mode xs h =
    simp (length-append, length-replicate) (omega (arith, head_long side mode (length xs), records_long xs))

pub block_long : (side mode : ℕ) (xs : List Task) → length xs ≤ most_tasks → length (block_of side mode xs) ≡ block_size
unfolding block_of
block_long side mode xs h = simp length-append (omega (arith, body_long side mode xs h))

-- ---- record after record into zeros, and the check

zeros : (r : ℕ) → record_size ≤ r → drop {A = ℕ} record_size (replicate r 0) ≡ replicate (r - record_size) 0
zeros r h =
    let e : record_size + (r - record_size) ≡ r = omega arith in
    ap (λ (n : ℕ). drop record_size (replicate {A = ℕ} n 0)) (sym e)
    ∙ ap (drop record_size) (sym (replicate-append-replicate record_size (r - record_size) 0))
    ∙ drop_at (replicate record_size 0) (replicate (r - record_size) 0) record_size refl

-- what stands once k records are written: the last four zeros make room for the check
unfoldable pub grown : List ℕ → (ℕ → Task) → ℕ → List ℕ
grown head f k = head ++ flat_map record_of (up_to f k) ++ replicate (block_size - record_place k) 0

pub grown_none : (head : List ℕ) (f : ℕ → Task) → head ++ replicate (block_size - head_size) 0 ≡ grown head f 0
unfolding grown up_to flat_map
grown_none head f = ap (λ (l : List ℕ). l ++ replicate (block_size - head_size) 0) (sym (append-nil head))

module _ (head : List ℕ) (h : length head ≡ head_size) (f : ℕ → Task) where
  grown_front : (k : ℕ) → length (head ++ flat_map record_of (up_to f k)) ≡ record_place k
  grown_front k = front_long head (up_to f k) h ∙ ap record_place (up_length f k)

  pub grown_length : (k : ℕ) → k ≤ most_tasks → length (grown head f k) ≡ block_size
  unfolding grown
  grown_length k l = simp (length-append, length-replicate) (omega (arith, h, records_long (up_to f k), up_length f k))

  pub grown_more : (b rec : List ℕ) (k : ℕ) → k < most_tasks → b ≡ grown head f k → rec ≡ record_of (f k)
      → take (record_place k) b ++ (rec ++ drop (record_place k + record_size - record_place k) (drop (record_place k) b)) ≡ grown head f (k + 1)
  unfolding grown up_to
  grown_more b rec k l e r =
      let front = head ++ flat_map record_of (up_to f k) in
      let tail = replicate {A = ℕ} (block_size - record_place k) 0 in
      let n : block_size - record_place k - record_size ≡ block_size - record_place (suc k) = omega arith in
      rw (add-one, e, r, flat_one record_of (up_to f k) (f k), ← append_assoc head (flat_map record_of (up_to f k)) (record_of (f k)), ← n)
      (put_part front tail (record_of (f k)) (record_place k) record_size (grown_front k)
      ∙ ap (λ (z : List ℕ). front ++ record_of (f k) ++ z) (zeros (block_size - record_place k) (omega arith)))

-- the words before the check are those of the body
word_front : (a c : List ℕ) (p : ℕ) → p + 3 < length a → word_at (a ++ c) p ≡ word_at a p
word_front a c p h =
    rw (
      get_or-append a c 0 p (omega arith),
      get_or-append a c 0 (p + 1) (omega arith),
      get_or-append a c 0 (p + 2) (omega arith),
      get_or-append a c 0 (p + 2 + 1) (omega arith),
    )

pub sum_front : (a c : List ℕ) (n : ℕ) → 4 * n ≤ length a → word_sum (a ++ c) n ≡ word_sum a n
unfolding word_sum
sum_front a c zero h = refl
sum_front a c (suc n) h = rw (sum_front a c n (omega arith), word_front a c (4 * n) (omega arith))

module _ (side mode : ℕ) (f : ℕ → Task) (n : ℕ) (few : n ≤ most_tasks) where
  grown_body : grown (head_of side mode n) f n ≡ body_of side mode (up_to f n) ++ replicate 4 0
  unfolding grown body_of
  grown_body =
      let m : block_size - record_place n ≡ check_place - record_place n + 4 = omega arith in
      rw (up_length f n, m, ← replicate-append-replicate {A = ℕ} (check_place - record_place n) 4 0)
      (sym (append_assoc (head_of side mode n ++ flat_map record_of (up_to f n)) (replicate (check_place - record_place n) 0) (replicate 4 0)))

  long : length (body_of side mode (up_to f n)) ≡ check_place
  long = body_long side mode (up_to f n) (omega (arith, up_length f n))

  pub grown_check : check_of (grown (head_of side mode n) f n) ≡ check_of (body_of side mode (up_to f n))
  grown_check = ap check_of grown_body ∙ ap (λ (s : ℕ). s % 4294967296) (sum_front (body_of side mode (up_to f n)) (replicate 4 0) check_words (omega (arith, long)))

  pub grown_sealed : (b check : List ℕ) → b ≡ grown (head_of side mode n) f n → check ≡ word_bytes (check_of b)
      → take check_place b ++ (check ++ drop 4 (drop check_place b)) ≡ block_of side mode (up_to f n)
  unfolding block_of
  grown_sealed b check e c =
      let d : check_of b ≡ check_of (body_of side mode (up_to f n)) = ap check_of e ∙ grown_check in
      rw (c, d, e, grown_body)
      (put_part (body_of side mode (up_to f n)) (replicate 4 0) (word_bytes (check_of (body_of side mode (up_to f n)))) check_place 4 long
      ∙ append-nil (body_of side mode (up_to f n) ++ word_bytes (check_of (body_of side mode (up_to f n)))))

-- ---- the records of a written block

pub record_says : (x : Task) → Small x → task_of (record_of x) ≡ x
unfolding task_of record_of
record_says x s = λ i. record {
  kind = x.kind;
  priority = x.priority;
  number = half x.number s.number i;
  period = half x.period s.period i;
  deadline = half x.deadline s.deadline i;
  execution = half x.execution s.execution i;
  offset = half x.offset s.offset i;
}
  where
    half : (n : ℕ) → n < 65536 → n % 256 + 256 * (n / 256 % 256) ≡ n
    half n h = omega arith

module _ (side mode : ℕ) (xs : List Task) where
  -- record k of the block is that of task k
  pub record_written : (k : ℕ) → k < length xs → record_part (block_of side mode xs) k ≡ record_of (get_or xs k no_task)
  unfolding block_of body_of
  record_written k l =
      let head = head_of side mode (length xs) in
      let room = replicate {A = ℕ} (check_place - record_place (length xs)) 0 in
      let rest = word_bytes (check_of (body_of side mode xs)) in
      let m : record_place k + record_size - record_place k ≡ record_size = omega arith in
      let d : record_place k ≡ length head + record_size * k = omega (arith, head_long side mode (length xs)) in
      let s : head ++ flat_map record_of xs ++ room ++ rest ≡ head ++ (flat_map record_of xs ++ (room ++ rest)) = simp append_assoc in
      rw (m, s, d, drop-append-add head (flat_map record_of xs ++ (room ++ rest)) (record_size * k))
      (flat_part record_of record_size record_long xs (room ++ rest) k no_task l)

  pub tasks_written : AllSmall xs → tasks_in (block_of side mode xs) (length xs) ≡ xs
  tasks_written s =
      up_same (λ k. task_of (record_part (block_of side mode xs) k)) (λ k. get_or xs k no_task) (length xs)
      (λ k l. ap task_of (record_written k l) ∙ record_says (get_or xs k no_task) (s k l))
      ∙ up_list xs no_task (length xs) (omega arith)
      ∙ take-length xs
