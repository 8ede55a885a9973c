-- Cases of the block and of the list, worked out by hand from document 01: a task in its three shapes, and verdicts with their whole answers. Definitions only.
use Rattle.std.specs.Prelude.{ℕ, ◌+◌, ◌*◌, ◌-◌, List, [], ◌∷◌, ◌++◌, get_or, take, replicate, Ok}
use Rattle.block.specs.declared.Task.{Task}
use Rattle.block.specs.declared.Answer.{Answer}
use Rattle.block.specs.Format.{mark_first, mark_second, list_size}
use Rattle.block.specs.Record.{task_by}
use Rattle.block.specs.Answers.{Verdict, answer, first_of, answer_of}
use Rattle.block.specs.Checks.{task_checks, record_checks, number_checks, double_check}
use Rattle.block.specs.Block.{seal_checks, head_checks, room_check, body_checks, block_verdict, list_head, list_verdict}

-- ---- a task; its sixteen bytes; its entry

abbrev pub shown_task : Task
shown_task = task_by 2 10 300 1000 900 263 600

abbrev pub shown_bytes : List ℕ
shown_bytes = 2 ∷ 10 ∷ 44 ∷ 1 ∷ 232 ∷ 3 ∷ 132 ∷ 3 ∷ 7 ∷ 1 ∷ 88 ∷ 2 ∷ 0 ∷ 0 ∷ 0 ∷ 0 ∷ []

abbrev pub shown_numbers : List ℕ
shown_numbers = 2 ∷ 10 ∷ 300 ∷ 1000 ∷ 900 ∷ 263 ∷ 600 ∷ []

-- ---- verdicts, each with the answer that the paper gives: done, or a code, a side and a record

pub record Case : Type 0 where
  pub verdict : Verdict
  pub expected : Answer

abbrev pub passes : Verdict → Case
passes v = record { verdict = v; expected = answer 0 2 0 0 }

abbrev pub refuses : Verdict → ℕ → ℕ → ℕ → Case
refuses v code side k = record { verdict = v; expected = answer code side k 0 }

abbrev pub answer_found : Case → Answer
answer_found c = answer_of c.verdict

abbrev pub answer_expected : Case → Answer
answer_expected c = c.expected

-- task k of a side, by kind, T, D, C, Y
abbrev pub of_task : ℕ → ℕ → ℕ → ℕ → ℕ → ℕ → ℕ → Verdict
of_task side k kind T D C Y = first_of (task_checks side k (task_by kind 10 300 T D C Y))

-- record k of a side by kind and the high byte of Y, good but for its last bytes
abbrev pub ending_in : ℕ → ℕ → ℕ → ℕ → List ℕ → Verdict
ending_in side k kind y bytes = first_of (record_checks side k (kind ∷ 10 ∷ 44 ∷ 1 ∷ 232 ∷ 3 ∷ 132 ∷ 3 ∷ 7 ∷ 1 ∷ 0 ∷ y ∷ bytes))

-- entry k of a side, good but for the size of a number
abbrev pub of_entry : ℕ → ℕ → ℕ → ℕ → ℕ → ℕ → ℕ → Verdict
of_entry side k kind p n T Y = first_of (number_checks side k (kind ∷ p ∷ n ∷ T ∷ 900 ∷ 7 ∷ Y ∷ []))

-- the checks of a head one by one: a length, a check word, a mark, and bytes 2, 3, 6 and 7
abbrev pub of_length : ℕ → ℕ → ℕ → Verdict
of_length side k n = get_or (seal_checks side k (replicate n 0)) 0 (Ok tt)

abbrev pub of_check : ℕ → ℕ → List ℕ → Verdict
of_check side k b = get_or (seal_checks side k b) 1 (Ok tt)

abbrev pub of_mark : ℕ → ℕ → ℕ → Verdict
of_mark wanted x y = get_or (head_checks wanted (x ∷ y ∷ [])) 2 (Ok tt)

abbrev pub of_head : ℕ → ℕ → ℕ → ℕ → ℕ → Verdict
of_head wanted s n x y = get_or (head_checks wanted (0 ∷ 0 ∷ s ∷ n ∷ 1 ∷ 2 ∷ x ∷ y ∷ [])) 3 (Ok tt)

-- the second of two tasks by number and priority
abbrev pub second : ℕ → ℕ → ℕ → ℕ → ℕ → Verdict
second side n p m q = double_check side (task_by 0 p n 1000 900 7 0 ∷ task_by 0 q m 1000 900 7 0 ∷ []) 1

-- the room behind one record of a block that is zero but for one byte
abbrev pub of_room : ℕ → ℕ → ℕ → Verdict
of_room side before after = room_check side (replicate before 0 ++ (1 ∷ replicate after 0)) 1

-- a record and an entry by kind, priority and number; three of them, and what stands behind the records
abbrev pub record_by : ℕ → ℕ → ℕ → List ℕ
record_by k p n = k ∷ p ∷ n ∷ 0 ∷ 232 ∷ 3 ∷ 132 ∷ 3 ∷ 7 ∷ 0 ∷ 0 ∷ 0 ∷ 0 ∷ 0 ∷ 0 ∷ 0 ∷ []

abbrev pub entry_by : ℕ → ℕ → ℕ → List ℕ
entry_by k p n = k ∷ p ∷ n ∷ 1000 ∷ 900 ∷ 7 ∷ 0 ∷ []

abbrev pub of_body : ℕ → List ℕ → List ℕ → List ℕ → List ℕ → Verdict
of_body side x y z room = first_of (body_checks side (replicate 8 0 ++ x ++ y ++ z ++ room) 3)

abbrev pub of_list : ℕ → List ℕ → List ℕ → List ℕ → Verdict
of_list side x y z = list_verdict side (x ++ y ++ z) 512

-- the first so many of a block without tasks and a zero behind it
abbrev pub of_size : ℕ → ℕ → Verdict
of_size side n = block_verdict side (take n (mark_first ∷ mark_second ∷ side ∷ (replicate 505 0 ++ (mark_first ∷ mark_second ∷ side ∷ 0 ∷ 0 ∷ []))))

unfoldable pub cases : List Case
cases =
    -- kinds by side
    passes (of_task 0 0 0 1000 900 7 0) ∷ passes (of_task 0 1 1 1000 900 7 0) ∷ refuses (of_task 0 3 2 1000 900 7 0) 5 0 3
    ∷ refuses (of_task 1 4 0 1000 900 7 0) 5 1 4 ∷ refuses (of_task 1 4 1 1000 900 7 0) 5 1 4 ∷ passes (of_task 1 4 2 1000 900 7 0) ∷ refuses (of_task 1 4 3 1000 900 7 0) 5 1 4
    -- the least task; D = T and D = T + 1, C = D and C = D + 1, C = 0, T = 0, and Y by side
    ∷ passes (first_of (task_checks 0 3 (task_by 0 0 0 1 1 1 0))) ∷ passes (of_task 0 3 0 1000 1000 7 0) ∷ refuses (of_task 0 3 0 1000 1001 7 0) 5 0 3 ∷ refuses (of_task 1 4 2 1000 1001 7 0) 5 1 4
    ∷ passes (of_task 0 3 0 1000 900 900 0) ∷ refuses (of_task 0 3 0 1000 900 901 0) 5 0 3 ∷ refuses (of_task 1 4 2 1000 900 901 0) 5 1 4
    ∷ refuses (of_task 0 3 0 1000 900 0 0) 5 0 3 ∷ refuses (of_task 1 4 2 1000 900 0 0) 5 1 4 ∷ refuses (of_task 0 3 0 0 0 0 0) 5 0 3 ∷ refuses (of_task 1 4 2 0 0 0 0) 5 1 4
    ∷ refuses (of_task 0 3 0 1000 900 7 1) 5 0 3 ∷ passes (of_task 1 4 2 1000 900 7 65535)
    -- the four zero bytes
    ∷ passes (ending_in 1 4 2 2 (0 ∷ 0 ∷ 0 ∷ 0 ∷ [])) ∷ refuses (ending_in 1 4 2 2 (1 ∷ 0 ∷ 0 ∷ 0 ∷ [])) 5 1 4 ∷ refuses (ending_in 0 3 1 0 (0 ∷ 0 ∷ 0 ∷ 1 ∷ [])) 5 0 3
    -- numbers of an entry that fit their fields
    ∷ passes (of_entry 1 4 2 255 65535 65535 65535) ∷ refuses (of_entry 1 4 258 10 300 1000 0) 5 1 4 ∷ refuses (of_entry 0 3 0 256 300 1000 0) 5 0 3
    ∷ refuses (of_entry 1 4 2 10 65536 1000 0) 5 1 4 ∷ refuses (of_entry 1 4 2 10 300 65536 0) 5 1 4 ∷ refuses (of_entry 1 4 2 10 300 1000 65536) 5 1 4
    -- length and check: the side and the record are those that were handed over
    ∷ passes (of_length 1 4 512) ∷ refuses (of_length 0 3 511) 1 0 3 ∷ refuses (of_length 2 5 513) 1 2 5
    ∷ passes (of_check 1 4 []) ∷ refuses (of_check 1 4 (1 ∷ [])) 2 1 4 ∷ refuses (of_check 9 0 (1 ∷ [])) 2 2 0
    -- the mark, then the side wanted and the block's own, the count, bytes 6-7
    ∷ passes (of_mark 0 77 84) ∷ refuses (of_mark 0 76 84) 3 0 0 ∷ refuses (of_mark 1 77 85) 3 1 0 ∷ refuses (of_mark 2 84 77) 3 2 0
    ∷ passes (of_head 0 0 0 0 0) ∷ passes (of_head 1 1 30 0 0) ∷ refuses (of_head 1 1 31 0 0) 4 1 0 ∷ refuses (of_head 0 1 0 0 0) 4 0 0
    ∷ refuses (of_head 1 0 0 0 0) 4 1 0 ∷ refuses (of_head 2 2 0 0 0) 4 2 0 ∷ refuses (of_head 9 9 0 0 0) 4 2 0 ∷ refuses (of_head 0 0 0 1 0) 4 0 0 ∷ refuses (of_head 0 0 0 0 1) 4 0 0
    -- a number or a priority that an earlier task bears
    ∷ passes (second 0 1 5 2 6) ∷ refuses (second 0 1 5 1 6) 6 0 1 ∷ refuses (second 1 1 5 2 5) 6 1 1
    -- the unused room behind one record goes from 24 to 507
    ∷ passes (of_room 0 23 488) ∷ refuses (of_room 0 24 487) 7 0 0 ∷ refuses (of_room 1 507 4) 7 1 0 ∷ passes (of_room 1 508 3)
    -- a list: the room of the lent block, whole entries, side and count
    ∷ passes (first_of (list_head 0 (30 * list_size) 512)) ∷ passes (first_of (list_head 1 (30 * list_size) 512))
    ∷ refuses (first_of (list_head 0 (2 * list_size) 511)) 1 0 0 ∷ refuses (first_of (list_head 1 (2 * list_size) 513)) 1 1 0 ∷ refuses (first_of (list_head 9 0 0)) 1 2 0
    ∷ refuses (first_of (list_head 0 (2 * list_size - 1) 512)) 11 2 0 ∷ refuses (first_of (list_head 1 (2 * list_size + 1) 512)) 11 2 0
    ∷ refuses (first_of (list_head 0 (31 * list_size) 512)) 4 0 0 ∷ refuses (first_of (list_head 1 (31 * list_size) 512)) 4 1 0
    ∷ refuses (first_of (list_head 2 (2 * list_size) 512)) 4 2 0 ∷ refuses (first_of (list_head 9 (2 * list_size) 512)) 4 2 0
    -- each code before the next: every record is judged before any double, and doubles before the room
    ∷ passes (of_body 0 (record_by 0 1 1) (record_by 0 2 2) (record_by 0 3 3) (0 ∷ []))
    ∷ refuses (of_body 0 (record_by 0 1 1) (record_by 0 2 1) (record_by 2 3 3) (1 ∷ [])) 5 0 2
    ∷ refuses (of_body 0 (record_by 0 1 1) (record_by 0 2 1) (record_by 0 3 1) (1 ∷ [])) 6 0 1
    ∷ refuses (of_body 0 (record_by 0 1 1) (record_by 0 2 2) (record_by 0 3 3) (1 ∷ [])) 7 0 0
    ∷ refuses (of_body 1 (record_by 2 1 1) (record_by 0 2 2) (record_by 0 3 1) (1 ∷ [])) 5 1 1
    ∷ refuses (of_body 1 (record_by 2 1 1) (record_by 2 2 2) (record_by 2 1 3) (1 ∷ [])) 6 1 2
    -- a block without tasks, and its length
    ∷ passes (of_size 1 512) ∷ refuses (of_size 0 511) 1 0 0 ∷ refuses (of_size 1 513) 1 1 0
    -- each code of a list before the next
    ∷ refuses (list_verdict 2 (entry_by 3 1 1 ++ (7 ∷ [])) 511) 1 2 0 ∷ refuses (list_verdict 2 (entry_by 3 1 1 ++ (7 ∷ [])) 512) 11 2 0 ∷ refuses (list_verdict 2 (entry_by 3 1 1) 512) 4 2 0
    ∷ passes (of_list 0 (entry_by 0 1 1) (entry_by 0 2 2) (entry_by 0 3 3))
    ∷ refuses (of_list 0 (entry_by 0 1 1) (entry_by 0 1 2) (entry_by 2 3 3)) 5 0 2
    ∷ refuses (of_list 0 (entry_by 0 1 1) (entry_by 0 1 2) (entry_by 0 1 3)) 6 0 1
    ∷ refuses (of_list 1 (entry_by 2 1 1) (entry_by 0 2 2) (entry_by 0 3 1)) 5 1 1
    ∷ refuses (of_list 1 (entry_by 2 1 1) (entry_by 2 2 2) (entry_by 2 3 1)) 6 1 2
    ∷ []
