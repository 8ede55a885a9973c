-- The ways out of the analysis: what each of its answers and reports is, from what the code knows there.
use Prim.Native.Nat.{ℕ, ◌+◌, ◌*◌, ◌≤◌, ◌<◌}
use mathlib.Core.Path.{◌≡◌, refl, sym, ◌∙◌}
use mathlib.Core.List.{List, ◌++◌}
use lib.ListN.{length, drop}
use borrow.Author.Tests.{lt-ltb, le-ltb}
use Rattle.std.specs.Prelude.{Ok, Err}
use Rattle.block.specs.declared.Task.{Task}
use Rattle.block.specs.declared.Table.{Table}
use Rattle.block.specs.declared.Answer.{Answer}
use Rattle.block.specs.Answers.{Verdict, answer, done, first_of}
use Rattle.block.specs.Block.{tasks_in, count_byte, mode_number, block_verdict, holds, spoilt, reading_of, table_of, listed}
use Rattle.block.specs.Legal.{Tabled}
use Rattle.block.proofs.Reading.{block_legal}
use Rattle.block.proofs.Codes.{reading_coded}
use Rattle.block.proofs.Tables.{table_listed, table_tabled}
use Rattle.rows.specs.Rows.{row_size, rows_of, late_checks, reported}
use Rattle.rows.proofs.Told.{listed_both}
use Rattle.pair.specs.Analysis.{analysis, pair_checks, pair_of, analyse_of}
use Rattle.pair.specs.Verdict.{verdict_of}
use Rattle.pair.proofs.Codes.{refusal_kept, pair_verdict}

-- ---- the tasks of two blocks

module _ (olds news : List Task) (report : List ℕ) where
  pub checks_short : length report < row_size * (length olds + length news) → first_of (pair_checks olds news (length report)) ≡ Err (answer 8 2 0 0)
  unfolding first_of
  checks_short h = rw (lt-ltb _ _ h)

  pub checks_late : row_size * (length olds + length news) ≤ length report → first_of (pair_checks olds news (length report)) ≡ first_of (late_checks olds news)
  unfolding first_of
  checks_late h = rw (le-ltb _ _ h)

  pub pair_short : length report < row_size * (length olds + length news) → pair_of olds news report ≡ analysis (answer 8 2 0 0) report
  unfolding pair_of
  pair_short h = rw (checks_short h)

  pub pair_late : (a : Answer) → row_size * (length olds + length news) ≤ length report → first_of (late_checks olds news) ≡ Err a
      → pair_of olds news report ≡ analysis a report
  unfolding pair_of
  pair_late a h e = rw (checks_late h, e)

  pub pair_done : row_size * (length olds + length news) ≤ length report → first_of (late_checks olds news) ≡ Ok tt
      → pair_of olds news report ≡ analysis done (rows_of olds news ++ drop (length (rows_of olds news)) report)
  unfolding pair_of
  pair_done h e = rw (checks_late h, e)

  pair_report : reported (first_of (pair_checks olds news (length report))) (rows_of olds news) report ≡ (pair_of olds news report).report
  unfolding pair_of
  pair_report = refl

-- the tasks of two tables
module _ (old new : Table) (p : Tabled 0 old) (q : Tabled 1 new) (report : List ℕ) where
  module _ (short : length report < row_size * (old.count + new.count)) where
    short_is : pair_of (listed old) (listed new) report ≡ analysis (answer 8 2 0 0) report
    short_is = pair_short (listed old) (listed new) report (rw (listed_both old new p q) short)

    pub short_verdict : Err (answer 8 2 0 0) ≡ verdict_of (pair_of (listed old) (listed new) report).reply
    short_verdict = rw short_is refl

    pub short_report : report ≡ (pair_of (listed old) (listed new) report).report
    short_report = rw short_is refl

  module _ (room : row_size * (old.count + new.count) ≤ length report) (v : Verdict) (first : v ≡ first_of (late_checks (listed old) (listed new))) where
    long_is : v ≡ first_of (pair_checks (listed old) (listed new) (length report))
    long_is = first ∙ sym (checks_late (listed old) (listed new) report (rw (listed_both old new p q) room))

    pub long_verdict : v ≡ verdict_of (pair_of (listed old) (listed new) report).reply
    long_verdict = long_is ∙ sym (pair_verdict (listed old) (listed new) report)

    pub long_report : (after : List ℕ) → after ≡ reported v (rows_of (listed old) (listed new)) report → after ≡ (pair_of (listed old) (listed new) report).report
    long_report after e = rw long_is at e ∙ pair_report (listed old) (listed new) report

pub ruleset settled = (short_verdict, short_report, long_verdict, long_report)

-- ---- what a block holds, from its checks

module _ (side : ℕ) (b : List ℕ) where
  pub verdict_spoilt : (a : Answer) → block_verdict side b ≡ Err a → reading_of side b ≡ spoilt a
  unfolding reading_of
  verdict_spoilt a e = rw e

  pub verdict_holds : block_verdict side b ≡ Ok tt → reading_of side b ≡ holds (mode_number b) (tasks_in b (count_byte b))
  unfolding reading_of
  verdict_holds e = rw e

  -- the table of the records of a block that passes
  module _ (l : List ℕ) (n : ℕ) (checked : (block_verdict side b ≡ Ok tt) × (l ≡ b) × (n ≡ count_byte b)) (t : Table) (is : t ≡ table_of (tasks_in l n)) where
    table_is_of : t ≡ table_of (tasks_in b (count_byte b))
    table_is_of = is ∙ rw (checked.1, checked.2)

    pub table_holds : reading_of side b ≡ holds (mode_number b) (listed t)
    table_holds = rw (table_is_of, table_listed (tasks_in b (count_byte b))) (verdict_holds checked.0)

    pub table_keeps : Tabled side t
    table_keeps = rw table_is_of (table_tabled side (tasks_in b (count_byte b)) (block_legal side b checked.0))

-- ---- the ways out

module _ (old_block new_block report : List ℕ) where
  analyse_old : (a : Answer) → reading_of 0 old_block ≡ spoilt a → analyse_of old_block new_block report ≡ analysis a report
  unfolding analyse_of
  analyse_old a e = rw e

  analyse_new : (m : ℕ) (olds : List Task) (a : Answer) → reading_of 0 old_block ≡ holds m olds → reading_of 1 new_block ≡ spoilt a
      → analyse_of old_block new_block report ≡ analysis a report
  unfolding analyse_of
  analyse_new m olds a p q = rw (p, q)

  pub analyse_pair : (m k : ℕ) (olds news : List Task) → reading_of 0 old_block ≡ holds m olds → reading_of 1 new_block ≡ holds k news
      → analyse_of old_block new_block report ≡ pair_of olds news report
  unfolding analyse_of
  analyse_pair m k olds news p q = rw (p, q)

  -- the verdict and the report at each way out
  abbrev Ends : Verdict → List ℕ → Type 0
  Ends v l = (v ≡ verdict_of (analyse_of old_block new_block report).reply) × (l ≡ (analyse_of old_block new_block report).report)

  refused : (a : Answer) → 1 ≤ a.code → analyse_of old_block new_block report ≡ analysis a report → Ends (Err a) report
  refused a h e = rw e (sym (refusal_kept a h), refl)

  pub ends_old : (a : Answer) → reading_of 0 old_block ≡ spoilt a → Ends (Err a) report
  ends_old a p = refused a (reading_coded 0 old_block a p) (analyse_old a p)

  module _ (m : ℕ) (olds : List Task) (p : reading_of 0 old_block ≡ holds m olds) where
    pub ends_new : (a : Answer) → reading_of 1 new_block ≡ spoilt a → Ends (Err a) report
    ends_new a q = refused a (reading_coded 1 new_block a q) (analyse_new m olds a p q)

    pub ends_pair : (k : ℕ) (news : List Task) → reading_of 1 new_block ≡ holds k news → (v : Verdict) (after : List ℕ)
        → v ≡ verdict_of (pair_of olds news report).reply → after ≡ (pair_of olds news report).report → Ends v after
    ends_pair k news q v after r s = rw (analyse_pair m k olds news p q) (r, s)
