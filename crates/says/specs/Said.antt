-- What the programs that run edge cases print: the bytes of each piece. Definitions only.
use Rattle.std.specs.Prelude.{Result, Ok, Err, ℕ, ◌+◌, ◌*◌, Bool, ◌&&◌, cond, List, [], ◌∷◌, ◌++◌, length, get_or, eqb, ltb, leb, codes, decimal, flat_map}
use Rattle.base.specs.Lists.{part}
use Rattle.block.specs.declared.Answer.{Answer}
use Rattle.block.specs.declared.Loaded.{Loaded}
use Rattle.block.specs.declared.Table.{Table}
use Rattle.block.specs.declared.Task.{Task}
use Rattle.block.specs.Answers.{done}
use Rattle.block.specs.Block.{table_of}
use Rattle.block.specs.Checks.{no_task}
use Rattle.block.specs.Format.{block_size, check_place, list_size, most_tasks}
use Rattle.block.specs.Record.{numbers_of, word_at}

-- a text, then each number with a space before it
abbrev pub said_numbers : List ℕ → List ℕ → List ℕ
said_numbers text xs = text ++ flat_map (λ n. 32 ∷ decimal n) xs

-- the four numbers of an answer
abbrev pub said_answer : Answer → List ℕ
said_answer a = said_numbers (codes ":") (a.code ∷ a.side ∷ a.«record» ∷ a.detail ∷ [])

abbrev pub said_kept : Bool → List ℕ
said_kept kept = cond kept (codes " kept") (codes " changed")

abbrev pub said_outcome : Answer → Bool → List ℕ
said_outcome a kept = said_answer a ++ said_kept kept

abbrev pub said_back : Bool → List ℕ
said_back same = cond same (codes ", back same") (codes ", back other")

-- the check of a whole block; nothing of any other bytes
abbrev pub said_check : List ℕ → List ℕ
said_check bytes = cond (eqb (length bytes) block_size) (codes ", check " ++ decimal (word_at bytes check_place)) []

abbrev pub said_task : Task → List ℕ
said_task x = said_numbers (codes ",") (numbers_of x)

-- the count, and the first, the second and the last of a table's places
abbrev pub said_table : Table → List ℕ
said_table t =
    (codes ", tasks " ++ decimal t.count)
    ++ (said_task (get_or t.tasks 0 no_task) ++ (said_task (get_or t.tasks 1 no_task) ++ said_task (get_or t.tasks 29 no_task)))

-- the answer to a loading, the mode number, the table
abbrev pub said_loading : Answer → ℕ → Table → List ℕ
said_loading a mode table = said_answer a ++ ((codes ", mode " ++ decimal mode) ++ said_table table)

-- of a refusal mode 0 and the table without tasks
abbrev pub said_loaded : Result Loaded Answer → List ℕ
said_loaded (Ok loaded) = said_loading done loaded.mode loaded.table
said_loaded (Err a) = said_loading a 0 (table_of [])

-- task k of a list, where k is below 30 and the list has it
abbrev pub said_entry : List ℕ → ℕ → List ℕ
said_entry list k =
    let at = list_size * k in
    cond (ltb k most_tasks && leb (at + list_size) (length list)) (said_numbers (codes ",") (part list at (at + list_size))) []
