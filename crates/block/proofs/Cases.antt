-- The cases of the block hold of the definitions that the contracts cite.
use Rattle.std.specs.Prelude.{Ok, Err}
use Prim.Native.Nat.{ℕ, ◌+◌, ◌*◌, ◌-◌}
use mathlib.Core.Path.{◌≡◌, refl}
use mathlib.Core.List.{[], ◌∷◌, ◌++◌, map, flat_map}
use lib.ListN.{length, replicate}
use Rattle.base.specs.Lists.{part, every, any, up_to}
use Rattle.block.specs.Format.{block_size, check_place, check_words, mark_first, mark_second}
use Rattle.block.specs.declared.Code.TheVariants.{Done, BlockLength, Check, Mark, Head, Rule, Double, UnusedRoom, Short, OldLate, NewLate, ListLength}
use Rattle.block.specs.Answers.{number_of, answer, done, first_of, answer_of}
use Rattle.block.specs.Record.{task_by, word_bytes, task_of, record_of, task_from, numbers_of}
use Rattle.block.specs.Checks.{kind_on, task_checks, alike}
use Rattle.block.specs.Block.{mode_number, word_sum, check_of, headed, seal_checks, head_checks, block_checks, block_verdict, reading_of, read_of, list_head, list_verdict, head_of, body_of, block_of, wrote, refused, write_of, reply_of, left_of, holds, spoilt, filled, table_of, loaded}
use Rattle.block.specs.Cases.{shown_task, shown_bytes, shown_numbers, answer_found, answer_expected, cases}

-- every verdict of the table has its answer
pub cases_hold : map answer_found cases ≡ map answer_expected cases
unfolding cases first_of every any up_to task_of task_from kind_on task_checks alike word_sum headed seal_checks head_checks block_verdict list_head list_verdict
cases_hold = refl

-- the answers of a block whose head and record all refuse: each code before the next
pub shown_order : map answer_of (block_checks 1 (1 ∷ 0 ∷ 0 ∷ 1 ∷ [])) ≡ answer 1 1 0 0 ∷ answer 2 1 0 0 ∷ answer 3 1 0 0 ∷ answer 4 1 0 0 ∷ answer 5 1 0 0 ∷ done ∷ done ∷ []
unfolding first_of every any up_to task_of kind_on task_checks alike word_sum headed seal_checks head_checks
shown_order = refl

-- an answer's four numbers, each in its place
pub shown_answer : answer 1 2 3 4 ≡ record { code = 1; side = 2; «record» = 3; detail = 4 }
shown_answer = refl

-- a part goes from its first place up to its second
pub shown_part : part {A = ℕ} (10 ∷ 11 ∷ 12 ∷ 13 ∷ []) 1 3 ≡ 11 ∷ 12 ∷ []
shown_part = refl

-- the task, its bytes and its numbers are the same one
pub shown : (task_of shown_bytes ≡ shown_task) × (record_of shown_task ≡ shown_bytes) × (task_from shown_numbers ≡ shown_task) × (numbers_of shown_task ≡ shown_numbers)
unfolding task_of record_of task_from numbers_of
shown = (refl, refl, refl, refl)

-- the bytes of a head, of a body without tasks, and of a word
pub shown_head : (head_of 1 513 30 ≡ mark_first ∷ mark_second ∷ 1 ∷ 30 ∷ 1 ∷ 2 ∷ 0 ∷ 0 ∷ []) × (mode_number (head_of 1 513 30) ≡ 513) × (body_of 1 513 [] ≡ head_of 1 513 0 ++ replicate 500 0) × (word_bytes 67305985 ≡ 1 ∷ 2 ∷ 3 ∷ 4 ∷ []) × (word_bytes 4294967295 ≡ replicate 4 255)
unfolding head_of body_of flat_map
shown_head = (refl, refl, refl, refl, refl)

-- words are added modulo 2^32, up to the check, which ends the block
pub shown_check : (check_of (1 ∷ 2 ∷ 3 ∷ 4 ∷ 5 ∷ []) ≡ 67305990) × (check_of (replicate 8 255) ≡ 4294967294) × (4 * check_words ≡ check_place) × (check_place + 4 ≡ block_size)
unfolding word_sum
shown_check = (refl, refl, refl, refl)

-- the body and the block of one task; its words add up to 134,833,471
pub shown_block : (body_of 1 513 (shown_task ∷ []) ≡ head_of 1 513 1 ++ shown_bytes ++ replicate 484 0)
    × (block_of 1 513 (shown_task ∷ []) ≡ body_of 1 513 (shown_task ∷ []) ++ (63 ∷ 101 ∷ 9 ∷ 8 ∷ []))
unfolding head_of body_of block_of record_of flat_map word_sum
shown_block = (refl, refl)

-- a list that is written, and one that is not: the answer, and what the lent block then holds
pub shown_write : (write_of 1 513 shown_numbers 512 ≡ wrote (block_of 1 513 (shown_task ∷ []))) × (write_of 0 513 [] 511 ≡ refused (answer 1 0 0 0))
    × (reply_of (wrote (8 ∷ [])) ≡ done) × (reply_of (refused (answer 1 0 0 0)) ≡ answer 1 0 0 0)
    × (left_of (wrote (8 ∷ [])) (9 ∷ []) ≡ 8 ∷ []) × (left_of (refused (answer 1 0 0 0)) (9 ∷ []) ≡ 9 ∷ [])
unfolding write_of list_verdict list_head first_of up_to every any alike kind_on task_checks task_from
shown_write = (refl, refl, refl, refl, refl, refl)

-- the codes of the paper's table
pub shown_codes : map number_of (Done ∷ BlockLength ∷ Check ∷ Mark ∷ Head ∷ Rule ∷ Double ∷ UnusedRoom ∷ Short ∷ OldLate ∷ NewLate ∷ ListLength ∷ [])
    ≡ 0 ∷ 1 ∷ 2 ∷ 3 ∷ 4 ∷ 5 ∷ 6 ∷ 7 ∷ 8 ∷ 9 ∷ 10 ∷ 11 ∷ []
shown_codes = refl

-- that block read back; of two tasks the answer tells as record how many there are
pub shown_read : (read_of 1 (block_of 1 513 (shown_task ∷ [])) (replicate 8 9) ≡ record { reply = answer 0 1 1 513; list = shown_numbers ++ (9 ∷ []) })
    × ((filled 1 (holds 513 (shown_task ∷ shown_task ∷ [])) (replicate 14 9)).reply ≡ answer 0 1 2 513)
unfolding read_of reading_of block_verdict seal_checks head_checks headed first_of up_to every any alike kind_on task_checks task_of block_of body_of head_of record_of numbers_of flat_map word_sum
shown_read = (refl, refl)

-- a list has room for the entries, and the number behind them stays
pub shown_room : ((filled 1 (holds 513 (shown_task ∷ [])) (replicate (length shown_numbers - 1) 9)).reply ≡ answer 8 2 0 0) × ((filled 1 (holds 513 (shown_task ∷ [])) (replicate (length shown_numbers) 9)).reply ≡ answer 0 1 1 513)
    × ((filled 1 (holds 513 (shown_task ∷ [])) (replicate (length shown_numbers + 1) 9)).list ≡ shown_numbers ++ (9 ∷ []))
unfolding numbers_of flat_map
shown_room = (refl, refl, refl)

-- the places of a table behind its tasks are zero, thirty in all; the loader gives the mode number and the table, or the refusal
pub shown_table : ((table_of (shown_task ∷ [])).tasks ≡ shown_task ∷ replicate 29 (task_by 0 0 0 0 0 0 0))
    × (loaded (holds 513 (shown_task ∷ [])) ≡ Ok (record { mode = 513; table = table_of (shown_task ∷ []) }))
    × (loaded (spoilt (answer 3 0 0 0)) ≡ Err (answer 3 0 0 0))
shown_table = (refl, refl, refl)
