-- What the lent report holds after the analysis: a refusal keeps it; done, the rows stand in front and the numbers past them are kept.
use Prim.Native.Nat.{ℕ, ◌+◌, ◌*◌, ◌-◌, ◌≤◌, ◌<◌}
use mathlib.Core.Path.{◌≡◌, refl, sym, ap, ◌∙◌}
use mathlib.Core.Logic.{⊎_elim}
use mathlib.Core.List.{List, ◌++◌}
use native.Mathlib.Omega.{arith}
use lib.ListN.{length, get_or, take, drop}
use lib.Seq.{get_or-append-add, get_or-drop}
use Rattle.base.proofs.Lists.{flat_part}
use Rattle.base.proofs.Search.{le_or_lt}
use Rattle.block.specs.declared.Task.{Task}
use Rattle.block.specs.Answers.{Verdict, first_of}
use Rattle.std.specs.Prelude.{Ok, Err}
use Rattle.block.specs.Checks.{no_task}
use Rattle.block.specs.Block.{Reading, holds, spoilt, reading_of}
use Rattle.row.specs.Row.{row_of}
use Rattle.rows.specs.Rows.{row_size, row_numbers, rows_of, late_checks}
use Rattle.pair.specs.Analysis.{pair_of, judged, settled, pair_checks, analyse_of}
use Rattle.pair.specs.Accepted.{Accepted}
use Rattle.block.proofs.Codes.{reading_coded}
use Rattle.pair.proofs.Codes.{late_coded}
use Rattle.rows.proofs.Laid.{rows_length, row_width}
use Rattle.pair.proofs.Exits.{pair_short, pair_late, pair_done}

module _ (old_block new_block report : List ℕ) where
  -- every refusal keeps the lent report
  pub refused_kept : ((analyse_of old_block new_block report).reply.code ≡ 0 → ⊥) → (analyse_of old_block new_block report).report ≡ report
  unfolding analyse_of pair_of
  refused_kept = go (reading_of 0 old_block) (reading_of 1 new_block)
    where
      settle : (v : Verdict) (rows : List ℕ) → ((settled v rows report).reply.code ≡ 0 → ⊥) → (settled v rows report).report ≡ report
      settle (Ok u) rows n = absurd (n refl)
      settle (Err a) rows n = refl

      go : (r s : Reading) → ((judged r s report).reply.code ≡ 0 → ⊥) → (judged r s report).report ≡ report
      go (spoilt a) s n = refl
      go (holds m olds) (spoilt a) n = refl
      go (holds m olds) (holds k news) n = settle (first_of (pair_checks olds news (length report))) (rows_of olds news) n

  module _ (m k : ℕ) (olds news : List Task) (p : reading_of 0 old_block ≡ holds m olds) (q : reading_of 1 new_block ≡ holds k news) where
    with_room : row_size * (length olds + length news) ≤ length report → (pair_of olds news report).reply.code ≡ 0 → (v : Verdict)
        → first_of (late_checks olds news) ≡ v → Accepted old_block new_block report (pair_of olds news report).report
    with_room h e (Err a) w =
        let z : a.code ≡ 0 = rw (pair_late olds news report a h w) at e in
        absurd (omega (arith, late_coded olds news a w))
    with_room h e (Ok tt) w =
        record {
          old_mode = m;
          new_mode = k;
          olds = olds;
          news = news;
          old_reads = p;
          new_reads = q;
          room = h;
          timely = w;
          rows = rw (pair_done olds news report h w);
        }

    pair_accepted : (pair_of olds news report).reply.code ≡ 0 → Accepted old_block new_block report (pair_of olds news report).report
    pair_accepted e =
        ⊎_elim
        (λ h. with_room h e (first_of (late_checks olds news)) refl)
        (λ h. let z : ◌≡◌ {A = ℕ} 8 0 = rw (pair_short olds news report h) at e in absurd (omega arith))
        (le_or_lt (row_size * (length olds + length news)) (length report))

  -- code 0: accepted, with the rows
  pub accepted : (analyse_of old_block new_block report).reply.code ≡ 0 → Accepted old_block new_block report (analyse_of old_block new_block report).report
  unfolding analyse_of
  accepted = go (reading_of 0 old_block) (reading_of 1 new_block) refl refl
    where
      go : (r s : Reading) → reading_of 0 old_block ≡ r → reading_of 1 new_block ≡ s → (judged r s report).reply.code ≡ 0
          → Accepted old_block new_block report (judged r s report).report
      go (spoilt a) s p q e = absurd (omega (arith, reading_coded 0 old_block a p))
      go (holds m olds) (spoilt a) p q e = absurd (omega (arith, reading_coded 1 new_block a q))
      go (holds m olds) (holds k news) p q e = pair_accepted m k olds news p q e

  module _ (after : List ℕ) (x : Accepted old_block new_block report after) where
    -- three numbers a task, old records in block order and then new ones
    pub row_at : (k : ℕ) → k < length (x.olds ++ x.news)
        → take row_size (drop (row_size * k) after) ≡ row_numbers (row_of x.olds x.news (get_or (x.olds ++ x.news) k no_task))
    row_at k h =
        rw x.rows
        (flat_part (λ i. row_numbers (row_of x.olds x.news i)) row_size (λ i. row_width (row_of x.olds x.news i)) (x.olds ++ x.news) _ k no_task h)

    -- past the last row the report keeps its values
    pub past_kept : (i : ℕ) → row_size * (length x.olds + length x.news) ≤ i → get_or after i 0 ≡ get_or report i 0
    past_kept i h =
        let n = length (rows_of x.olds x.news) in
        let e : i ≡ n + (i - n) = omega (arith, rows_length x.olds x.news) in
        rw x.rows
        (ap (λ (j : ℕ). get_or (rows_of x.olds x.news ++ drop n report) j 0) e
        ∙ get_or-append-add (rows_of x.olds x.news) (drop n report) (i - n) 0
        ∙ get_or-drop n report (i - n) 0
        ∙ ap (λ (j : ℕ). get_or report j 0) (sym e))
