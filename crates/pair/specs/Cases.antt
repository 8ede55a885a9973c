-- Two tables of cases: a to j of document 01, "Numbers to check against", and more that were worked out by hand from its text. A case is two
-- task lists, the room of the lent report, the answer and the rows. Definitions only.
use Rattle.std.specs.Prelude.{ℕ, ◌-◌, List, [], ◌∷◌, ◌++◌, length, replicate}
use Rattle.block.specs.declared.Task.{Task}
use Rattle.block.specs.declared.Answer.{Answer}
use Rattle.block.specs.Record.{task_by}
use Rattle.block.specs.Answers.{answer, done}
use Rattle.block.specs.Block.{holds}
use Rattle.pair.specs.Analysis.{Analysis, analysis, judged}

pub record Case : Type 0 where
  pub olds : List Task
  pub news : List Task
  pub room : ℕ
  pub reply : Answer
  pub rows : List ℕ

abbrev pub accepted : List Task → List Task → ℕ → List ℕ → Case
accepted xs ys n l = record { olds = xs; news = ys; room = n; reply = done; rows = l }

abbrev pub refused_by : List Task → List Task → ℕ → Answer → Case
refused_by xs ys n a = record { olds = xs; news = ys; room = n; reply = a; rows = [] }

-- the report is lent full of sevens; in each of a to j there is room for one number more than the rows
abbrev pub lent : Case → List ℕ
lent c = replicate c.room 7

-- what the analysis gives, and what document 01 says; the mode numbers are not compared
abbrev pub found : ℕ → ℕ → Case → Analysis
found m k c = judged (holds m c.olds) (holds k c.news) (lent c)

abbrev pub expected : Case → Analysis
expected c = analysis c.reply (c.rows ++ replicate (c.room - length c.rows) 7)

-- ---- tasks as number, T, D, C, priority, Y

abbrev pub completed_task : ℕ → ℕ → ℕ → ℕ → ℕ → Task
completed_task n T D C p = task_by 0 p n T D C 0

abbrev pub aborted_task : ℕ → ℕ → ℕ → ℕ → ℕ → Task
aborted_task n T D C p = task_by 1 p n T D C 0

abbrev pub new_task : ℕ → ℕ → ℕ → ℕ → ℕ → ℕ → Task
new_task n T D C p Y = task_by 2 p n T D C Y

-- case a, with the D of number 2 and of number 20 left open
abbrev pub olds_a : ℕ → List Task
olds_a D = completed_task 1 10 10 2 1 ∷ completed_task 2 20 D 4 3 ∷ []

abbrev pub news_a : ℕ → List Task
news_a D = new_task 10 10 8 3 2 0 ∷ new_task 20 20 D 5 4 4 ∷ []

abbrev pub rows_a : List ℕ
rows_a = 2 ∷ 1 ∷ 2 ∷ 9 ∷ 1 ∷ 6 ∷ 5 ∷ 5 ∷ 3 ∷ 13 ∷ 17 ∷ 8 ∷ []

abbrev pub olds_f : List Task
olds_f = aborted_task 1 10 10 4 1 ∷ completed_task 2 20 20 4 3 ∷ []

abbrev pub olds_g : List Task
olds_g = aborted_task 1 10 10 4 1 ∷ aborted_task 2 10 10 4 2 ∷ completed_task 3 20 20 4 3 ∷ []

-- ---- the table: a, b, c, d, e, e with 7, f, g, h, i empty, i with one task, j

unfoldable pub cases : List Case
cases =
    accepted (olds_a 20) (news_a 20) 13 rows_a
    ∷ accepted (olds_a 9) (news_a 20) 13 rows_a
    ∷ refused_by (olds_a 8) (news_a 20) 13 (answer 9 0 1 1)
    ∷ accepted (olds_a 20) (news_a 13) 13 rows_a
    ∷ refused_by (olds_a 20) (news_a 12) 13 (answer 10 1 1 1)
    ∷ refused_by (olds_a 20) (news_a 7) 13 (answer 10 1 1 0)
    ∷ accepted olds_f [] 7 (4 ∷ 0 ∷ 4 ∷ 8 ∷ 4 ∷ 8 ∷ [])
    ∷ accepted olds_g [] 10 (4 ∷ 0 ∷ 4 ∷ 8 ∷ 0 ∷ 8 ∷ 20 ∷ 14 ∷ 20 ∷ [])
    ∷ accepted (completed_task 1 10 10 2 5 ∷ []) (new_task 1 10 10 3 5 0 ∷ []) 7 (2 ∷ 1 ∷ 2 ∷ 5 ∷ 5 ∷ 3 ∷ [])
    ∷ accepted [] [] 1 []
    ∷ accepted [] (new_task 1 5 5 5 1 65535 ∷ []) 4 (5 ∷ 5 ∷ 5 ∷ [])
    ∷ refused_by [] (new_task 1 5 5 5 1 0 ∷ new_task 2 5 5 1 2 0 ∷ []) 7 (answer 10 1 1 0)
    ∷ []

-- ---- the second table: more cases, by hand from "The windows", "The rows" and "Codes and what comes back"

-- a new task above an old one, with its Y left open
abbrev pub news_above : ℕ → List Task
news_above Y = new_task 1 10 10 3 1 Y ∷ []

-- an aborted task above, several of whose jobs come before the request; the D of the task below it left open
abbrev pub olds_cut : ℕ → List Task
olds_cut D = aborted_task 1 5 3 2 1 ∷ completed_task 2 12 D 4 2 ∷ []

-- completed tasks above an aborted one, whose D is left open
abbrev pub olds_whole : ℕ → List Task
olds_whole D = completed_task 1 3 3 1 1 ∷ completed_task 2 8 8 4 2 ∷ aborted_task 3 10 D 1 3 ∷ []

-- a new task of many jobs, above an old task and another new one, whose D are left open
abbrev pub olds_many : ℕ → List Task
olds_many D = completed_task 1 8 D 4 2 ∷ []

abbrev pub news_many : ℕ → List Task
news_many D = new_task 1 3 3 1 1 0 ∷ new_task 2 20 D 2 3 1 ∷ []

abbrev pub rows_many : List ℕ
rows_many = 6 ∷ 1 ∷ 4 ∷ 1 ∷ 1 ∷ 1 ∷ 8 ∷ 9 ∷ 3 ∷ []

-- of each side two tasks are late: the second and third old ones, the first and third new ones
abbrev pub olds_late : List Task
olds_late = completed_task 1 10 10 2 1 ∷ completed_task 2 10 4 3 2 ∷ aborted_task 3 10 4 4 3 ∷ []

abbrev pub news_late : List Task
news_late = new_task 1 10 3 3 5 0 ∷ new_task 2 10 10 2 4 0 ∷ new_task 3 10 3 3 6 0 ∷ []

unfoldable pub more_cases : List Case
more_cases =
    -- from the request an aborted task above adds nothing
    accepted (aborted_task 1 10 10 4 1 ∷ []) (new_task 1 10 10 3 2 0 ∷ []) 6 (4 ∷ 0 ∷ 4 ∷ 3 ∷ 3 ∷ 3 ∷ [])
    -- nor does a new one before its Y: steady is then the larger; where w is at most Y, steady counts
    ∷ accepted [] (new_task 1 10 10 2 1 5 ∷ new_task 2 10 10 3 2 0 ∷ []) 6 (2 ∷ 2 ∷ 2 ∷ 5 ∷ 3 ∷ 5 ∷ [])
    -- at phase 1 and t = 4 a new task above of Y = 2 has come, one of Y = 3 has not
    ∷ accepted (olds_many 8) (news_above 2) 6 (7 ∷ 1 ∷ 4 ∷ 3 ∷ 3 ∷ 3 ∷ [])
    ∷ accepted (olds_many 8) (news_above 3) 6 (4 ∷ 1 ∷ 4 ∷ 3 ∷ 3 ∷ 3 ∷ [])
    -- several jobs of one new task; completed, and new from the request: in time, and late by one tick
    ∷ accepted (olds_many 6) (news_many 8) 9 rows_many
    ∷ refused_by (olds_many 5) (news_many 8) 9 (answer 9 0 0 1)
    ∷ refused_by (olds_many 6) (news_many 7) 9 (answer 10 1 1 1)
    -- new, steady: in time, and late by one tick
    ∷ accepted [] (news_many 3) 6 (1 ∷ 1 ∷ 1 ∷ 3 ∷ 3 ∷ 3 ∷ [])
    ∷ refused_by [] (news_many 2) 6 (answer 10 1 1 0)
    -- several jobs of an aborted task; the task below it in time, and late at its last phase alone
    ∷ accepted (olds_cut 8) [] 6 (2 ∷ 0 ∷ 2 ∷ 8 ∷ 7 ∷ 8 ∷ [])
    ∷ refused_by (olds_cut 7) [] 6 (answer 9 0 1 7)
    -- several jobs of a completed task; an aborted one in time, and late by one tick
    ∷ accepted (olds_whole 8) [] 9 (1 ∷ 1 ∷ 1 ∷ 6 ∷ 4 ∷ 6 ∷ 8 ∷ 0 ∷ 8 ∷ [])
    ∷ refused_by (olds_whole 7) [] 9 (answer 9 0 2 0)
    -- a short report is named first, then the first late old task, then the first late new one
    ∷ refused_by olds_late news_late 17 (answer 8 2 0 0)
    ∷ refused_by olds_late news_late 18 (answer 9 0 1 1)
    ∷ refused_by [] news_late 9 (answer 10 1 0 0)
    ∷ []

-- an old block without tasks
abbrev pub blank_block : List ℕ
blank_block = 77 ∷ 84 ∷ (replicate 506 0 ++ (77 ∷ 84 ∷ 0 ∷ 0 ∷ []))
