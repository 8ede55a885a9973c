-- Laws of rows laid one behind the other, and of the first late task: of one side, task by task, then of both.
use Prim.Native.Nat.{ℕ, zero, suc, ◌+◌, ◌*◌, ◌<◌}
use mathlib.Core.Path.{◌≡◌, refl, sym, ap, ◌∙◌}
use mathlib.Core.List.{List, [], ◌∷◌, ◌++◌, flat_map}
use lib.ListN.{length, get_or, take, length-append}
use lib.Seq.{take-suc, take_all, take-append-add}
use native.Mathlib.Omega.{arith}
use native.Mathlib.Numerals.{add-one}
use Rattle.std.specs.Prelude.{Ok, Err}
use Rattle.base.specs.Lists.{up_to}
use Rattle.base.proofs.Lists.{up_same, flat_append, flat_one, flat_length}
use Rattle.block.proofs.Verdicts.{first_on, first_stop, each_more, each_stop}
use Rattle.block.specs.declared.Task.{Task}
use Rattle.block.specs.declared.Answer.{Answer}
use Rattle.block.specs.Answers.{Verdict, answer, first_of}
use Rattle.block.specs.Checks.{no_task}
use Rattle.row.specs.declared.Row.{Row}
use Rattle.row.specs.Row.{Judged, row_of}
use Rattle.rows.specs.Rows.{row_size, row_numbers, rows_of, late_check, late_checks}
use Rattle.rows.specs.Fill.{side_check, side_rows, Going, Filled}

pub row_width : (j : Judged) → length (row_numbers j) ≡ row_size
row_width (Ok r) = refl
row_width (Err d) = refl

pub rows_length : (olds news : List Task) → length (rows_of olds news) ≡ row_size * (length olds + length news)
rows_length olds news =
    flat_length (λ i. row_numbers (row_of olds news i)) row_size (λ i. row_width (row_of olds news i)) (olds ++ news)
    ∙ ap (λ (n : ℕ). row_size * n) (length-append olds news)

-- ---- one side, one task after the other

module _ (side : ℕ) (f : Task → Judged) (xs : List Task) where
  pub going_first : (numbers : List ℕ) → Going side f xs 0 numbers
  unfolding first_of up_to flat_map
  going_first numbers = record { timely = refl; laid = refl }

  module _ (j : ℕ) (numbers : List ℕ) (going : Going side f xs j numbers) (inside : j < length xs) where
    pub going_more : (r : Row) (after : List ℕ) → Ok r ≡ f (get_or xs j no_task) → take (row_size * (j + 1)) after ≡ take (row_size * j) numbers ++ row_numbers (Ok r)
        → Going side f xs (j + 1) after
    going_more r after row wrote =
        record {
          timely = each_more (side_check side f xs) j going.timely (rw (sym row) refl);
          laid = rw (wrote, going.laid, add-one, take-suc xs j no_task inside, flat_one (λ i. row_numbers (f i)) (take j xs) (get_or xs j no_task), sym row) refl;
        }

    pub going_late : (d : ℕ) → Err d ≡ f (get_or xs j no_task) → Filled side f xs numbers (Err (answer (9 + side) side j d))
    going_late d row =
        record {
          verdict = sym (each_stop (side_check side f xs) (length xs) j (answer (9 + side) side j d) inside going.timely (rw (sym row) refl));
          rows = λ e. let z : ◌≡◌ {A = ℕ} 0 1 = cc in absurd (omega arith);
        }

  pub going_end : (j : ℕ) (numbers : List ℕ) → j ≡ length xs → Going side f xs j numbers → Filled side f xs numbers (Ok tt)
  going_end j numbers e g = record { verdict = sym (rw e at g.timely); rows = λ z. (rw e at g.laid) ∙ rw (take_all (length xs) xs (omega arith)) refl }

  -- by another way to the same rows it is the same
  module _ (g : Task → Judged) (same : (j : ℕ) → j < length xs → f (get_or xs j no_task) ≡ g (get_or xs j no_task)) where
    pub filled_same : (numbers : List ℕ) (r : Verdict) → Filled side f xs numbers r → Filled side g xs numbers r
    unfolding flat_map
    filled_same numbers r p =
        record {
          verdict = p.verdict ∙ ap first_of (up_same (side_check side f xs) (side_check side g xs) (length xs) (λ k l. ap (late_check (9 + side) side k) (same k l)));
          rows = λ e. p.rows e ∙ go xs same;
        }
      where
        go : (l : List Task) → ((j : ℕ) → j < length l → f (get_or l j no_task) ≡ g (get_or l j no_task)) → side_rows f l ≡ side_rows g l
        go [] h = refl
        go (x ∷ l) h = rw (h zero (omega arith), go l (λ j k. h (suc j) (omega arith))) refl

-- ---- both sides

module _ (olds news : List Task) where
  pub first_refused : (numbers : List ℕ) (a : Answer) → Filled 0 (row_of olds news) olds numbers (Err a) → Err a ≡ first_of (late_checks olds news)
  first_refused numbers a p = sym (first_stop _ (up_to (side_check 1 (row_of olds news) news) (length news)) a (sym p.verdict))

  pub second_refused : (front back : List ℕ) (v : Verdict) → Filled 0 (row_of olds news) olds front (Ok tt) → Filled 1 (row_of olds news) news back v
      → v ≡ first_of (late_checks olds news)
  second_refused front back v p q = q.verdict ∙ sym (first_on _ (up_to (side_check 1 (row_of olds news) news) (length news)) (sym p.verdict))

  pub both_laid : (front back : List ℕ) → length front ≡ row_size * length olds → Filled 0 (row_of olds news) olds front (Ok tt) → Filled 1 (row_of olds news) news back (Ok tt)
      → take (row_size * (length olds + length news)) (front ++ back) ≡ rows_of olds news
  both_laid front back n p q =
      let e : row_size * (length olds + length news) ≡ row_size * length olds + row_size * length news = omega arith in
      let f : front ≡ side_rows (row_of olds news) olds = sym (take_all (row_size * length olds) front (omega (arith, n))) ∙ p.rows refl in
      rw (e, flat_append (λ i. row_numbers (row_of olds news i)) olds news)
      ((rw n at (take-append-add front back (row_size * length news))) ∙ rw (f, q.rows refl) refl)
