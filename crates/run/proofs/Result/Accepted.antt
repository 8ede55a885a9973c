-- What an accepted pair gives: every task is timely, and the report holds the first number of its row.
use Prim.Native.Nat.{ℕ, zero, suc, ◌<◌}
use mathlib.Core.Path.{◌≡◌, refl, ◌∙◌}
use mathlib.Core.List.{List, [], ◌∷◌, ◌++◌, flat_map}
use native.Mathlib.Nat.{not-suc-le-zero}
use native.Mathlib.Omega.{arith}
use lib.ListN.{length, drop}
use Rattle.base.specs.Lists.{up_to}
use Rattle.block.specs.declared.Task.{Task}
use Rattle.block.specs.Answers.{Verdict, first_of}
use Rattle.std.specs.Prelude.{Ok, Err}
use Rattle.row.specs.declared.Row.{Row}
use Rattle.row.specs.Row.{Judged, row_of}
use Rattle.rows.specs.Rows.{row_numbers, rows_of, late_check, late_checks}
use Rattle.pair.specs.Accepted.{Accepted}
use Rattle.run.specs.Promise.{count, task, first_place, first_number}
use Rattle.run.proofs.Tasks.{by_side}
use Rattle.block.proofs.Verdicts.{first_left, first_right, each_at}

timely : (code side k : ℕ) (j : Judged) → late_check code side k j ≡ Ok tt → (r : Row) × (j ≡ Ok r)
timely code side k (Ok r) e = (r, refl)
timely code side k (Err d) e = let z : ◌≡◌ {A = ℕ} 0 1 = cc in absurd (omega arith)

module _ (olds news : List Task) where
  old_check_lem : ℕ → Verdict
  old_check_lem k = late_check 9 0 k (row_of olds news (task olds k))

  new_check_lem : ℕ → Verdict
  new_check_lem k = late_check 10 1 k (row_of olds news (task news k))

  all_timely : first_of (late_checks olds news) ≡ Ok tt → (i : ℕ) → i < count (olds ++ news) → (r : Row) × (row_of olds news (task (olds ++ news) i) ≡ Ok r)
  unfolding old_check_lem new_check_lem
  all_timely e =
      by_side olds news (λ x. (r : Row) × (row_of olds news x ≡ Ok r))
      (λ k l. timely 9 0 k (row_of olds news (task olds k)) (each_at old_check_lem (length olds) k l (first_left (up_to old_check_lem (length olds)) (up_to new_check_lem (length news)) e)))
      (λ k l. timely 10 1 k (row_of olds news (task news k)) (each_at new_check_lem (length news) k l (first_right (up_to old_check_lem (length olds)) (up_to new_check_lem (length news)) e)))

next_row : (a b c : ℕ) (l : List ℕ) (i : ℕ) → first_number (a ∷ b ∷ c ∷ l) (suc i) ≡ first_number l i
next_row a b c l i = let z : first_place (suc i) ≡ suc (suc (suc (first_place i))) = omega arith in rw z

-- row i of a list of rows, whatever stands behind them
row_at : (f : Task → Judged) (xs : List Task) (rest : List ℕ) (i : ℕ) (r : Row) → i < length xs → f (task xs i) ≡ Ok r
    → first_number (flat_map (λ x. row_numbers (f x)) xs ++ rest) i ≡ r.first
unfolding flat_map
row_at f [] rest i r l e = absurd (not-suc-le-zero l)
row_at f (x ∷ xs) rest zero r l e = rw e
row_at f (x ∷ xs) rest (suc i) r l e = go (f x) (row_at f xs rest i r (omega arith) e)
  where
    go : (j : Judged) → first_number (flat_map (λ x. row_numbers (f x)) xs ++ rest) i ≡ r.first
        → first_number (row_numbers j ++ flat_map (λ x. row_numbers (f x)) xs ++ rest) (suc i) ≡ r.first
    go (Ok s) h = next_row s.first s.second s.third (flat_map (λ x. row_numbers (f x)) xs ++ rest) i ∙ h
    go (Err d) h = next_row 0 0 0 (flat_map (λ x. row_numbers (f x)) xs ++ rest) i ∙ h

-- ---- code 0

-- every task is timely, and the first number of its row is where the report then has it
pub first_numbers : (old_block new_block report after : List ℕ) (a : Accepted old_block new_block report after) (i : ℕ) → i < count (a.olds ++ a.news)
    → (r : Row) × (row_of a.olds a.news (task (a.olds ++ a.news) i) ≡ Ok r) × (first_number after i ≡ r.first)
first_numbers old_block new_block report after a i l =
    let t = all_timely a.olds a.news a.timely i l in
    (t.0, t.1, rw a.rows (row_at (row_of a.olds a.news) (a.olds ++ a.news) (drop (length (rows_of a.olds a.news)) report) i t.0 l t.1))
