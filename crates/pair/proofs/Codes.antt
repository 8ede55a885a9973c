-- Every refusal of the analysis has a code of 1 or more, so nothing of a verdict is lost in its answer.
use Prim.Native.Nat.{ℕ, ◌+◌, ◌*◌, ◌≤◌}
use mathlib.Core.Path.{◌≡◌, refl, ap}
use mathlib.Core.List.{List}
use native.Mathlib.Omega.{arith}
use lib.ListN.{length, get_or}
use lib.Dec.{ltb}
use Rattle.block.specs.declared.Task.{Task}
use Rattle.block.specs.declared.Answer.{Answer}
use Rattle.std.specs.Prelude.{Ok, Err}
use Rattle.std.proofs.lemmas.Bool.{ne_eqb}
use Rattle.block.specs.Answers.{Verdict, answer, first_of, answer_of}
use Rattle.block.specs.Checks.{no_task}
use Rattle.block.specs.Block.{Reading, holds, spoilt, reading_of}
use Rattle.block.proofs.Codes.{Coded, coded_passed, coded_refused, coded_after, coded_test, coded_each, reading_coded}
use Rattle.row.specs.Row.{Judged, row_of}
use Rattle.rows.specs.Rows.{row_size, late_check, late_checks}
use Rattle.pair.specs.Analysis.{pair_checks, judged, pair_of, analyse_of}
use Rattle.pair.specs.Verdict.{verdict_of}

pub late_coded : (olds news : List Task) (a : Answer) → first_of (late_checks olds news) ≡ Err a → 1 ≤ a.code
late_coded olds news =
    coded_after _ _ (coded_each _ (λ k. one 9 0 k (row_of olds news (get_or olds k no_task)) (omega arith)) (length olds))
    (coded_each _ (λ k. one 10 1 k (row_of olds news (get_or news k no_task)) (omega arith)) (length news))
  where
    one : (code side k : ℕ) (j : Judged) → 1 ≤ code → Coded (late_check code side k j)
    one code side k (Ok r) h = coded_passed
    one code side k (Err d) h = coded_refused (answer code side k d) h

-- what refuses with a code of 1 or more is the verdict of its answer
pub refusal_kept : (a : Answer) → 1 ≤ a.code → verdict_of a ≡ Err a
refusal_kept a h = rw (ne_eqb a.code 0 (λ e. omega arith))

verdict_kept : (v : Verdict) → Coded v → verdict_of (answer_of v) ≡ v
verdict_kept (Ok u) h = refl
verdict_kept (Err a) h = refusal_kept a (h a refl)

module _ (olds news : List Task) (report : List ℕ) where
  checks_coded : Coded (first_of (pair_checks olds news (length report)))
  checks_coded = coded_test (ltb (length report) (row_size * (length olds + length news))) (answer 8 2 0 0) _ (omega arith) (late_coded olds news)

  pub pair_verdict : verdict_of (pair_of olds news report).reply ≡ first_of (pair_checks olds news (length report))
  unfolding pair_of
  pair_verdict = verdict_kept _ checks_coded

  pair_answer : answer_of (verdict_of (pair_of olds news report).reply) ≡ (pair_of olds news report).reply
  unfolding pair_of
  pair_answer = ap answer_of (verdict_kept _ checks_coded)

-- so the answer is that of the verdict
pub analysis_answer : (old_block new_block report : List ℕ) → answer_of (verdict_of (analyse_of old_block new_block report).reply) ≡ (analyse_of old_block new_block report).reply
unfolding analyse_of
analysis_answer old_block new_block report = go (reading_of 0 old_block) (reading_of 1 new_block) refl refl
  where
    go : (r s : Reading) → reading_of 0 old_block ≡ r → reading_of 1 new_block ≡ s → answer_of (verdict_of (judged r s report).reply) ≡ (judged r s report).reply
    go (spoilt a) s p q = ap answer_of (refusal_kept a (reading_coded 0 old_block a p))
    go (holds m olds) (spoilt a) p q = ap answer_of (refusal_kept a (reading_coded 1 new_block a q))
    go (holds m olds) (holds k news) p q = pair_answer olds news report
