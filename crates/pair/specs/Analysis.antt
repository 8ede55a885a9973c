-- The analysis of two blocks: refusals in order, and what the lent report then holds. Definitions only.
use Rattle.std.specs.Prelude.{ℕ, ◌+◌, ◌*◌, List, ◌∷◌, length, ltb}
use Rattle.block.specs.declared.Task.{Task}
use Rattle.block.specs.declared.Answer.{Answer}
use Rattle.block.specs.Answers.{Verdict, answer, refuse, first_of, answer_of}
use Rattle.block.specs.Block.{Reading, holds, spoilt, reading_of}
use Rattle.rows.specs.Rows.{row_size, rows_of, late_checks, reported}

-- room for the rows, then every task in time
abbrev pub pair_checks : List Task → List Task → ℕ → List Verdict
pair_checks olds news room = refuse (ltb room (row_size * (length olds + length news))) (answer 8 2 0 0) ∷ late_checks olds news

-- what the analysis answers, and what the lent report then holds
pub record Analysis : Type 0 where
  pub reply : Answer
  pub report : List ℕ

abbrev pub analysis : Answer → List ℕ → Analysis
analysis a l = record { reply = a; report = l }

abbrev pub settled : Verdict → List ℕ → List ℕ → Analysis
settled v rows report = analysis (answer_of v) (reported v rows report)

-- the tasks of two blocks that read
unfoldable pub pair_of : List Task → List Task → List ℕ → Analysis
pair_of olds news report = settled (first_of (pair_checks olds news (length report))) (rows_of olds news) report

-- the old block first, then the new one, then the pair
abbrev pub judged : Reading → Reading → List ℕ → Analysis
judged (spoilt a) r report = analysis a report
judged (holds m olds) (spoilt a) report = analysis a report
judged (holds m olds) (holds k news) report = pair_of olds news report

unfoldable pub analyse_of : List ℕ → List ℕ → List ℕ → Analysis
analyse_of old_block new_block report = judged (reading_of 0 old_block) (reading_of 1 new_block) report
