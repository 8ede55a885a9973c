use Prim.Native.Nat.{ℕ, ◌+◌, ◌*◌}
use native.Mathlib.Omega.{arith}
use mathlib.Core.Path.{◌≡◌, refl, ap, ◌∙◌}
use mathlib.Core.List.{List, ◌++◌}
use lib.ListN.{length, drop}
use Rattle.std.proofs.lemmas.Result.{err_from_is_err_and}
use Rattle.block.specs.Block.{listed}
use Rattle.block.proofs.Tables.{listed_length}
use Rattle.rows.specs.Rows.{rows_of}
use Rattle.rows.proofs.Laid.{rows_length, first_refused, second_refused, both_laid}
use Rattle.rows.proofs.Told.{listed_both, table_roll, filled_told}
use Rattle.rows.proofs.rows_of.Goals as goal

pub returns-in_err-fill : goal.returns-in_err-fill
returns-in_err-fill c =
    let a = c.args in
    let q = c.requires in
    let o = table_roll 0 a.old q.0 _ _ c.roll.ensures.0 in
    let w = table_roll 1 a.new q.1 _ _ c.roll-2.ensures.0 in
    let p = err_from_is_err_and c.from_residual.result c.from_residual.ensures.1 in
    rw (p.1, p.2) (first_refused _ _ _ _ (filled_told _ _ q.0.legal _ _ o w 0 _ q.0.legal _ _ c.in_err-fill.ensures), refl)

pub returns-in_err-fill-2 : goal.returns-in_err-fill-2
returns-in_err-fill-2 c =
    let a = c.args in
    let q = c.requires in
    let o = table_roll 0 a.old q.0 _ _ c.roll.ensures.0 in
    let w = table_roll 1 a.new q.1 _ _ c.roll-2.ensures.0 in
    let p = err_from_is_err_and c.from_residual-in_err-fill-2.result c.from_residual-in_err-fill-2.ensures.1 in
    rw (p.1, p.2)
    (second_refused _ _ _ _ _ (filled_told _ _ q.0.legal _ _ o w 0 _ q.0.legal _ _ c.in_ok-fill.ensures) (filled_told _ _ q.0.legal _ _ o w 1 _ q.1.legal _ _ c.in_err-fill-2.ensures), refl)

pub returns : goal.returns
returns c =
    let a = c.args in
    let q = c.requires in
    let o = table_roll 0 a.old q.0 _ _ c.roll.ensures.0 in
    let w = table_roll 1 a.new q.1 _ _ c.roll-2.ensures.0 in
    let first = filled_told _ _ q.0.legal _ _ o w 0 _ q.0.legal _ _ c.in_ok-fill.ensures in
    let second = filled_told _ _ q.0.legal _ _ o w 1 _ q.1.legal _ _ c.in_ok-fill-2.ensures in
    let sized : length (listed a.old) + length (listed a.new) ≡ a.old.count + a.new.count = listed_both a.old a.new q.0 q.1 in
    let laid = rw sized at (both_laid _ _ c.fill.new.numbers c.fill-2.new.numbers
    (omega (arith, c.fill.auto.numbers, c.split_at_mut-front.ensures.front_len, listed_length 0 a.old q.0)) first second) in
    let long : length (rows_of (listed a.old) (listed a.new)) ≡ 3 * (a.old.count + a.new.count) = rows_length (listed a.old) (listed a.new) ∙ rw sized refl in
    (second_refused _ _ _ _ _ first second, rw (c.copy_from_slice.ensures.after, long) (ap (λ (l : List ℕ). l ++ drop (3 * (a.old.count + a.new.count)) a.report.now) laid))
