-- The numbers of the house format, each once. Definitions only.
use Rattle.std.specs.Prelude.{ℕ, ◌+◌, ◌*◌}

-- a block has 512 bytes: 8 of a head, 30 records of 16, room that stays zero, and a check of 4 at 508, after 127 words
abbrev pub block_size : ℕ
block_size = 512

abbrev pub head_size : ℕ
head_size = 8

abbrev pub record_size : ℕ
record_size = 16

abbrev pub most_tasks : ℕ
most_tasks = 30

abbrev pub check_place : ℕ
check_place = 508

abbrev pub check_words : ℕ
check_words = 127

-- the mark, bytes 0 and 1
abbrev pub mark_first : ℕ
mark_first = 77

abbrev pub mark_second : ℕ
mark_second = 84

-- where record k starts
abbrev pub record_place : ℕ → ℕ
record_place k = head_size + record_size * k

-- where the zero bytes at a record's end start
abbrev pub zero_place : ℕ
zero_place = 12

-- an entry, a task of a list, is seven numbers
abbrev pub list_size : ℕ
list_size = 7
