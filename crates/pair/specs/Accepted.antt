-- What it means that a pair is accepted: both blocks read, the report has room, no task is late, and the report then holds the rows. Definitions only.
use Rattle.std.specs.Prelude.{ℕ, ◌+◌, ◌*◌, ◌≤◌, ◌≡◌, List, ◌++◌, length, drop, Ok}
use Rattle.block.specs.declared.Task.{Task}
use Rattle.block.specs.Answers.{first_of}
use Rattle.block.specs.Block.{holds, reading_of}
use Rattle.rows.specs.Rows.{row_size, rows_of, late_checks}

-- `after` is what the lent report holds in the end
pub record Accepted (old_block new_block report after : List ℕ) : Type 0 where
  pub old_mode : ℕ
  pub new_mode : ℕ
  pub olds : List Task
  pub news : List Task
  pub old_reads : reading_of 0 old_block ≡ holds old_mode olds
  pub new_reads : reading_of 1 new_block ≡ holds new_mode news
  pub room : row_size * (length olds + length news) ≤ length report
  pub timely : first_of (late_checks olds news) ≡ Ok tt
  pub rows : after ≡ rows_of olds news ++ drop (length (rows_of olds news)) report
