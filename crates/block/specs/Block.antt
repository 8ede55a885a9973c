-- A block: what it says, when it is refused, what reading it leaves in a lent list, what writing leaves in a lent block. Definitions only.
use Rattle.std.specs.Prelude.{ℕ, zero, suc, ◌+◌, ◌*◌, ◌/◌, ◌%◌, ◌-◌, Bool, cond, not, ◌&&◌, length, take, drop, replicate, eqb, leb, ltb, Result, Ok, Err}
use mathlib.Core.List.{List, [], ◌∷◌, ◌++◌, flat_map}
use Rattle.base.specs.Lists.{part, up_to}
use Rattle.block.specs.declared.Task.{Task}
use Rattle.block.specs.declared.Table.{Table}
use Rattle.block.specs.declared.Loaded.{Loaded}
use Rattle.block.specs.declared.Answer.{Answer}
use Rattle.block.specs.Format.{block_size, head_size, record_size, most_tasks, check_place, check_words, mark_first, mark_second, record_place, list_size}
use Rattle.block.specs.Record.{byte_at, half_at, word_at, half_bytes, word_bytes, all_zero, task_of, record_of, task_from, numbers_of}
use Rattle.block.specs.Answers.{Verdict, answer, done, refusal, refuse, first_of}
use Rattle.block.specs.Checks.{record_checks, number_checks, double_check, no_task}

-- ---- the layout

abbrev pub side_byte : List ℕ → ℕ
side_byte b = byte_at b 2

abbrev pub count_byte : List ℕ → ℕ
count_byte b = byte_at b 3

abbrev pub mode_number : List ℕ → ℕ
mode_number b = half_at b 4

-- record k: the sixteen bytes that start at its own place
abbrev pub record_part : List ℕ → ℕ → List ℕ
record_part b k = part b (record_place k) (record_place k + record_size)

-- the tasks of the first n records
abbrev pub tasks_in : List ℕ → ℕ → List Task
tasks_in b n = up_to (λ k. task_of (record_part b k)) n

-- the unused room behind n records
abbrev pub unused_room : List ℕ → ℕ → List ℕ
unused_room b n = part b (record_place n) check_place

-- the first n words added, and the check: the 127 words before it, added modulo 2^32
unfoldable pub word_sum : List ℕ → ℕ → ℕ
word_sum b zero = 0
word_sum b (suc n) = word_sum b n + word_at b (4 * n)

abbrev pub check_of : List ℕ → ℕ
check_of b = word_sum b check_words % 4294967296

-- ---- reading: codes 1 to 7 in order

-- bytes 0 and 1 are a mark's two
abbrev pub marked_by : ℕ → ℕ → List ℕ → Bool
marked_by first second b = eqb (byte_at b 0) first && eqb (byte_at b 1) second

abbrev pub marked : List ℕ → Bool
marked b = marked_by mark_first mark_second b

-- the side wanted is 0 or 1 and the block's own, the count is at most 30, bytes 6-7 are zero
unfoldable pub headed : ℕ → List ℕ → Bool
headed side b = leb side 1 && eqb (side_byte b) side && leb (count_byte b) most_tasks && all_zero (part b 6 head_size)

-- 1 and 2: the length and the check, for a side and the place that a refusal names
unfoldable pub seal_checks : ℕ → ℕ → List ℕ → List Verdict
seal_checks side place b =
    refuse (not (eqb (length b) block_size)) (refusal 1 side place)
    ∷ refuse (not (eqb (word_at b check_place) (check_of b))) (refusal 2 side place)
    ∷ []

-- 1 to 4
unfoldable pub head_checks : ℕ → List ℕ → List Verdict
head_checks side b = seal_checks side 0 b ++ (refuse (not (marked b)) (refusal 3 side 0) ∷ refuse (not (headed side b)) (refusal 4 side 0) ∷ [])

-- 5 for each of n records, 6 for each task of a list
abbrev pub each_record : ℕ → List ℕ → ℕ → List Verdict
each_record side b n = up_to (λ k. first_of (record_checks side k (record_part b k))) n

abbrev pub each_double : ℕ → List Task → List Verdict
each_double side xs = up_to (double_check side xs) (length xs)

abbrev pub room_check : ℕ → List ℕ → ℕ → Verdict
room_check side b n = refuse (not (all_zero (unused_room b n))) (refusal 7 side 0)

-- 5, 6, 7 over n records
abbrev pub body_checks : ℕ → List ℕ → ℕ → List Verdict
body_checks side b n = each_record side b n ++ each_double side (tasks_in b n) ++ (room_check side b n ∷ [])

abbrev pub block_checks : ℕ → List ℕ → List Verdict
block_checks side b = head_checks side b ++ body_checks side b (count_byte b)

unfoldable pub block_verdict : ℕ → List ℕ → Verdict
block_verdict side b = first_of (block_checks side b)

-- what a block holds, or the refusal
pub data Reading : Type 0 where
  holds : (mode : ℕ) → List Task → Reading
  spoilt : Answer → Reading

abbrev pub reading : Verdict → List ℕ → Reading
reading (Ok u) b = holds (mode_number b) (tasks_in b (count_byte b))
reading (Err a) b = spoilt a

unfoldable pub reading_of : ℕ → List ℕ → Reading
reading_of side b = reading (block_verdict side b) b

-- the tasks as a list of numbers
abbrev pub list_of : List Task → List ℕ
list_of xs = flat_map numbers_of xs

-- what the reader answers, and what the lent list then holds
pub record Read : Type 0 where
  pub reply : Answer
  pub list : List ℕ

abbrev pub outcome : Answer → List ℕ → Read
outcome a l = record { reply = a; list = l }

abbrev pub filled : ℕ → Reading → List ℕ → Read
filled side (spoilt a) l = outcome a l
filled side (holds mode xs) l =
    cond (ltb (length l) (list_size * length xs))
    (outcome (answer 8 2 0 0) l)
    (outcome (answer 0 side (length xs) mode) (list_of xs ++ drop (list_size * length xs) l))

unfoldable pub read_of : ℕ → List ℕ → List ℕ → Read
read_of side b l = filled side (reading_of side b) l

-- the table of a list of tasks, and the tasks that a table lists: the first `count` of its places
abbrev pub table_of : List Task → Table
table_of xs = record { tasks = xs ++ replicate (most_tasks - length xs) no_task; count = length xs }

abbrev pub listed : Table → List Task
listed t = take t.count t.tasks

-- what the loader gives: the mode number and the table, or the refusal
abbrev pub loaded : Reading → Result Loaded Answer
loaded (spoilt a) = Err a
loaded (holds mode xs) = Ok (record { mode = mode; table = table_of xs })

unfoldable pub loaded_of : ℕ → List ℕ → Result Loaded Answer
loaded_of side b = loaded (reading_of side b)

-- ---- writing: codes 1, 11, 4, 5, 6 in order

-- the entry of task k, and the tasks of the first n entries
abbrev pub numbers_part : List ℕ → ℕ → List ℕ
numbers_part l k = part l (list_size * k) (list_size * k + list_size)

abbrev pub tasks_from : List ℕ → ℕ → List Task
tasks_from l n = up_to (λ k. task_from (numbers_part l k)) n

abbrev pub tasks_of : List ℕ → List Task
tasks_of l = tasks_from l (length l / list_size)

abbrev pub each_entry : ℕ → List ℕ → ℕ → List Verdict
each_entry side l n = up_to (λ k. first_of (number_checks side k (numbers_part l k))) n

unfoldable pub list_head : ℕ → ℕ → ℕ → List Verdict
list_head side size room =
    refuse (not (eqb room block_size)) (refusal 1 side 0)
    ∷ refuse (not (eqb (size % list_size) 0)) (refusal 11 2 0)
    ∷ refuse (not (leb side 1 && leb (size / list_size) most_tasks)) (refusal 4 side 0)
    ∷ []

abbrev pub list_checks : ℕ → List ℕ → ℕ → List Verdict
list_checks side l room = list_head side (length l) room ++ each_entry side l (length l / list_size) ++ each_double side (tasks_of l)

unfoldable pub list_verdict : ℕ → List ℕ → ℕ → Verdict
list_verdict side l room = first_of (list_checks side l room)

-- the block of some tasks: head, records, zeros, and the check of what stands before it
unfoldable pub head_of : ℕ → ℕ → ℕ → List ℕ
head_of side mode n = mark_first ∷ mark_second ∷ side ∷ n ∷ (half_bytes mode ++ (0 ∷ 0 ∷ []))

unfoldable pub body_of : ℕ → ℕ → List Task → List ℕ
body_of side mode xs = head_of side mode (length xs) ++ flat_map record_of xs ++ replicate (check_place - record_place (length xs)) 0

unfoldable pub block_of : ℕ → ℕ → List Task → List ℕ
block_of side mode xs = body_of side mode xs ++ word_bytes (check_of (body_of side mode xs))

-- the block written, or the refusal; of the lent block only its length counts
pub data Written : Type 0 where
  wrote : List ℕ → Written
  refused : Answer → Written

abbrev pub written : Verdict → List ℕ → Written
written (Ok u) b = wrote b
written (Err a) b = refused a

unfoldable pub write_of : ℕ → ℕ → List ℕ → ℕ → Written
write_of side mode l room = written (list_verdict side l room) (block_of side mode (tasks_of l))

-- what the writer answers, and what the lent block then holds
abbrev pub reply_of : Written → Answer
reply_of (wrote b) = done
reply_of (refused a) = a

abbrev pub left_of : Written → List ℕ → List ℕ
left_of (wrote b) lent = b
left_of (refused a) lent = lent
