-- What a line of a try says, the good lists, damage to a block, lists that agree. Definitions only.
use Rattle.std.specs.Prelude.{ℕ, ◌+◌, ◌*◌, ◌-◌, ◌%◌, Bool, cond, Option, Some, None, List, ◌++◌, take, drop, set, eqb, fold, codes, position, slice_get}
use Rattle.std.specs.List.{slice_split, zip, list_all}
use Rattle.std.specs.Option.{option_and_then, option_map_or}
use Rattle.base.specs.Lists.{up_to}
use Rattle.block.specs.declared.Task.{Task}
use Rattle.block.specs.Format.{block_size, check_place, list_size}
use Rattle.block.specs.Record.{word_bytes, task_by}
use Rattle.block.specs.Block.{check_of, list_of}

-- ---- a line: words with one space between them

-- word k, counted from 0
abbrev pub word_of : ℕ → List ℕ → Option (List ℕ)
word_of k line = slice_get (slice_split (λ b. eqb b 32) line) k

-- the digits of a word, modulo 2^32
abbrev pub decimal_of : List ℕ → ℕ
decimal_of word = fold (λ x b. (10 * x + b % 16) % 4294967296) 0 word

-- what word k says in decimal; 2^32 - 1 where there is none
abbrev pub number_of : ℕ → List ℕ → ℕ
number_of k line = option_map_or decimal_of (word_of k line) 4294967295

-- the first letter of word k
abbrev pub letter_of : ℕ → List ℕ → Option ℕ
letter_of k line = option_and_then (λ word. slice_get word 0) (word_of k line)

-- a number less for short-, a number more for extra-
abbrev pub shifted : Option ℕ → ℕ → ℕ
shifted None n = n
shifted (Some letter) n = cond (eqb letter 115) (n - 1) (cond (eqb letter 101) (n + 1) n)

-- room for as many tasks as word k + 1 says, at so many numbers each, shifted as word k says
abbrev pub room_of : ℕ → ℕ → List ℕ → ℕ
room_of size k line = shifted (letter_of k line) (size * number_of (k + 1) line)

-- the place of a field by the first letter of its name: kind, priority, number, T, D, C, Y
abbrev pub field_of : ℕ → Option ℕ
field_of letter = position (λ b. eqb b letter) (codes "kpnTDCY")

-- ---- good lists

-- good lists have 32 tasks, and no list is longer
abbrev pub good_tasks : ℕ
good_tasks = 32

abbrev pub most_numbers : ℕ
most_numbers = list_size * good_tasks

-- task k of a side: old ones have kind 0 and 1 by turns and no offset, new ones kind 2
abbrev pub good_task : ℕ → ℕ → Task
good_task side k = task_by (cond (eqb side 0) (k % 2) 2) (10 + k) (300 + k) 1000 900 7 (cond (eqb side 0) 0 (600 + k))

abbrev pub good_list : ℕ → List ℕ
good_list side = list_of (up_to (good_task side) good_tasks)

-- ---- damage to a block

-- what word k + 2 says, put at the place that word k says
abbrev pub put_byte : ℕ → List ℕ → List ℕ → List ℕ
put_byte k line b = set b (number_of k line) (number_of (k + 2) line % 256)

-- a block with the check that its other bytes ask for
abbrev pub mended : List ℕ → List ℕ
mended b = take check_place b ++ (word_bytes (check_of (take block_size b)) ++ drop 4 (drop check_place b))

-- two bytes put, and the check mended where word 11 is 1
abbrev pub damaged : List ℕ → List ℕ → List ℕ
damaged line b = let d = put_byte 17 line (put_byte 13 line b) in cond (eqb (number_of 11 line) 1) (mended d) d

-- ---- lent memory

-- two lists are the same as far as both go
abbrev pub agree : List ℕ → List ℕ → Bool
agree a b = list_all (λ p. eqb p.0 p.1) (zip a b)
