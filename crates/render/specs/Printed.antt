-- What the program prints of an input. Definitions only.
use Rattle.std.specs.Prelude.{ℕ, suc, ◌+◌, ◌*◌, cond, List, [], ◌∷◌, ◌++◌, length, take, drop, replicate, eqb}
use Rattle.base.specs.Lists.{part}
use Rattle.lines.specs.Line.{line_of}
use Rattle.lines.specs.Words.{change_line, most_change, letter_at}
use Rattle.block.specs.declared.Task.{Task}
use Rattle.block.specs.declared.Answer.{Answer}
use Rattle.block.specs.Format.{block_size, most_tasks}
use Rattle.block.specs.Block.{Reading, holds, spoilt, reading_of}
use Rattle.rows.specs.Rows.{row_size, report_room}
use Rattle.pair.specs.Analysis.{Analysis, analyse_of}

-- ---- the input

-- the first 512 bytes are the old block, all the rest the new; short input makes a short block
unfoldable pub old_block : List ℕ → List ℕ
old_block input = take block_size input

unfoldable pub new_block : List ℕ → List ℕ
new_block input = drop block_size input

-- the analysis of two blocks, in a report with room for every row
unfoldable pub found : List ℕ → List ℕ → Analysis
found old new = analyse_of old new (replicate report_room 0)

-- the mode number and the tasks that a block holds; a refused one holds none
unfoldable pub mode_held : Reading → ℕ
mode_held (holds mode xs) = mode
mode_held (spoilt a) = 0

unfoldable pub tasks_held : Reading → List Task
tasks_held (holds mode xs) = xs
tasks_held (spoilt a) = []

-- ---- the lines

-- r e f u s e d, then code, side, record, detail
abbrev pub refused_word : List ℕ
refused_word = 114 ∷ 101 ∷ 102 ∷ 117 ∷ 115 ∷ 101 ∷ 100 ∷ []

unfoldable pub refused_line : Answer → List ℕ
refused_line a = line_of refused_word (a.code ∷ a.side ∷ a.«record» ∷ a.detail ∷ [])

-- a task's line: its letter, its number, its row
unfoldable pub task_line : Task → List ℕ → List ℕ
task_line x row = line_of (letter_at x.kind ∷ []) (x.number ∷ row)

-- row j of a report
abbrev pub row_part : List ℕ → ℕ → List ℕ
row_part report j = part report (row_size * j) (row_size * j + row_size)

-- a line a task; the first task's row is row j of the report
unfoldable pub task_lines : List ℕ → ℕ → List Task → List ℕ
task_lines report j [] = []
task_lines report j (x ∷ xs) = task_line x (row_part report j) ++ task_lines report (suc j) xs

-- done: the change, then the old tasks and the new ones
unfoldable pub done_lines : ℕ → ℕ → List Task → List Task → List ℕ → List ℕ
done_lines a b olds news report = change_line a b ++ (task_lines report 0 olds ++ task_lines report (length olds) news)

-- ---- all that is printed

unfoldable pub lines_of : Analysis → Reading → Reading → List ℕ
lines_of s o n = cond (eqb s.reply.code 0) (done_lines (mode_held o) (mode_held n) (tasks_held o) (tasks_held n) s.report) (refused_line s.reply)

-- of two blocks, and of an input
unfoldable pub pair_lines : List ℕ → List ℕ → List ℕ
pair_lines old new = lines_of (found old new) (reading_of 0 old) (reading_of 1 new)

unfoldable pub printed : List ℕ → List ℕ
printed input = pair_lines (old_block input) (new_block input)

-- no text is longer: the letter, the number and the line feed of a task take at most 8 bytes, each number of its row 11
abbrev pub most_line : ℕ
most_line = 8 + 11 * row_size

abbrev pub most_text : ℕ
most_text = most_change + most_line * (most_tasks + most_tasks)
