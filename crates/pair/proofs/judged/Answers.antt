use Rattle.std.proofs.lemmas.Result.{err_from_is_err_and}
use Rattle.pair.proofs.Exits.{verdict_spoilt, verdict_holds, table_holds, ends_old, ends_new, ends_pair}
use Rattle.pair.proofs.judged.Goals as goal

pub returns-in_err-before : goal.returns-in_err-before
returns-in_err-before c =
    let p = err_from_is_err_and c.from_residual.result c.from_residual.ensures.1 in
    rw (p.1, p.2) (ends_old _ _ _ _ (verdict_spoilt _ _ _ c.in_err-before.ensures))

pub returns-in_err-after : goal.returns-in_err-after
returns-in_err-after c =
    let p = err_from_is_err_and c.from_residual-in_err-after.result c.from_residual-in_err-after.ensures.1 in
    rw (p.1, p.2) (ends_new _ _ _ _ _ (verdict_holds _ _ c.in_ok-before.ensures.0) _ (verdict_spoilt _ _ _ c.in_err-after.ensures))

pub returns : goal.returns
returns c =
    ends_pair _ _ _ _ _ (table_holds _ _ _ _ c.in_ok-before.ensures _ c.table_of.ensures) _ _ (table_holds _ _ _ _ c.in_ok-after.ensures _ c.table_of-2.ensures) _ _
    c.settle.ensures.0 c.settle.ensures.1
