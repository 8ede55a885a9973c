-- Cases of what is printed, worked out by hand: each with the bytes that it is to give. Definitions only.
use Rattle.std.specs.Prelude.{ℕ, List, [], ◌∷◌, ◌++◌, length, replicate}
use Rattle.lines.specs.Cases.{Case, gives}
use Rattle.block.specs.declared.Task.{Task}
use Rattle.block.specs.Record.{task_by}
use Rattle.block.specs.Answers.{answer}
use Rattle.block.specs.Block.{holds, spoilt, block_of}
use Rattle.pair.specs.Analysis.{analysis}
use Rattle.render.specs.Printed.{old_block, new_block, found, refused_line, task_line, done_lines, lines_of, printed, most_line, most_text}

-- a task of each kind, no two of their numbers alike
abbrev pub completed : Task
completed = task_by 0 21 22 23 24 25 26

abbrev pub aborted : Task
aborted = task_by 1 31 32 33 34 35 36

abbrev pub new : Task
new = task_by 2 41 42 43 44 45 46

-- the rows of three tasks and a number behind them
abbrev pub report : List ℕ
report = 1 ∷ 2 ∷ 3 ∷ 4 ∷ 5 ∷ 6 ∷ 7 ∷ 8 ∷ 9 ∷ 10 ∷ []

-- "o 22 1 2 3", "a 32 4 5 6", "n 42 7 8 9"
abbrev pub task_text : List ℕ
task_text =
    111 ∷ 32 ∷ 50 ∷ 50 ∷ 32 ∷ 49 ∷ 32 ∷ 50 ∷ 32 ∷ 51 ∷ 10
    ∷ 97 ∷ 32 ∷ 51 ∷ 50 ∷ 32 ∷ 52 ∷ 32 ∷ 53 ∷ 32 ∷ 54 ∷ 10
    ∷ 110 ∷ 32 ∷ 52 ∷ 50 ∷ 32 ∷ 55 ∷ 32 ∷ 56 ∷ 32 ∷ 57 ∷ 10
    ∷ []

-- "change " and two numbers of a digit
abbrev pub change : ℕ → ℕ → List ℕ
change a b = 99 ∷ 104 ∷ 97 ∷ 110 ∷ 103 ∷ 101 ∷ 32 ∷ a ∷ 32 ∷ b ∷ 10 ∷ []

-- "refused", before its numbers
abbrev pub refused : List ℕ → List ℕ
refused rest = 114 ∷ 101 ∷ 102 ∷ 117 ∷ 115 ∷ 101 ∷ 100 ∷ rest

-- the task whose line is longest
abbrev pub longest : Task
longest = task_by 2 0 65535 0 0 0 0

unfoldable pub cases : List Case
cases =
    -- the first 512 bytes and the rest; short input
    gives (old_block (replicate 512 1 ++ (2 ∷ 3 ∷ []))) (replicate 512 1) ∷ gives (new_block (replicate 512 1 ++ (2 ∷ 3 ∷ []))) (2 ∷ 3 ∷ [])
    ∷ gives (old_block (1 ∷ [])) (1 ∷ []) ∷ gives (new_block (1 ∷ [])) []
    -- the report that is lent, kept by a refusal
    ∷ gives (found [] []).report (replicate 180 0)
    -- "refused 10 1 29 8"
    ∷ gives (refused_line (answer 10 1 29 8)) (refused (32 ∷ 49 ∷ 48 ∷ 32 ∷ 49 ∷ 32 ∷ 50 ∷ 57 ∷ 32 ∷ 56 ∷ 10 ∷ []))
    -- two old tasks and a new one: done, and "refused 8 2 0 0"; a block that is refused has mode 0 and no tasks
    ∷ gives (lines_of (analysis (answer 0 2 0 0) report) (holds 5 (completed ∷ aborted ∷ [])) (holds 6 (new ∷ []))) (change 53 54 ++ task_text)
    ∷ gives (lines_of (analysis (answer 8 2 0 0) report) (holds 5 (completed ∷ aborted ∷ [])) (holds 6 (new ∷ []))) (refused (32 ∷ 56 ∷ 32 ∷ 50 ∷ 32 ∷ 48 ∷ 32 ∷ 48 ∷ 10 ∷ []))
    ∷ gives (lines_of (analysis (answer 0 2 0 0) report) (spoilt (answer 1 2 3 4)) (spoilt (answer 5 6 7 8))) (change 48 48)
    -- two blocks without tasks
    ∷ gives (printed (block_of 0 5 [] ++ block_of 1 6 [])) (change 53 54)
    -- the longest line and the longest text
    ∷ gives (length (task_line longest (replicate 3 4294967295)) ∷ []) (most_line ∷ [])
    ∷ gives (length (done_lines 65535 65535 (replicate 30 longest) (replicate 30 longest) (replicate 180 4294967295)) ∷ []) (most_text ∷ [])
    ∷ []
