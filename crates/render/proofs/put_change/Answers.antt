-- Each way out is a verdict of the analysis, and the verdict tells the lines.
use Rattle.std.proofs.Common.{refl, sym, ap, ◌∙◌, length}
use Rattle.std.proofs.lemmas.Result.{err_from_is_err_and}
use Rattle.pair.proofs.Exits.{ends_old, ends_new}
use Rattle.lines.specs.Put.{put}
use Rattle.render.specs.Printed.{found}
use Rattle.render.proofs.Printed.{load_spoilt, load_holds, refusal_lines, change_lines}
use Rattle.render.proofs.put_change.Goals as goal

pub returns-in_err-judged-clause-err : goal.returns-in_err-judged-clause-err
unfolding found
returns-in_err-judged-clause-err c =
    let p = err_from_is_err_and c.from_residual.result c.from_residual.ensures.1 in
    rw (p.1, p.2) (refl, refusal_lines _ _ _ c.in_err-judged.ensures.0)

pub returns-in_err-olds-clause-err : goal.returns-in_err-olds-clause-err
unfolding found
returns-in_err-olds-clause-err c =
    let p = err_from_is_err_and c.from_residual-in_err-olds.result c.from_residual-in_err-olds.ensures.1 in
    rw (p.1, p.2) (refl, refusal_lines _ _ _ (ends_old _ _ _ _ (load_spoilt _ _ _ c.in_err-olds.ensures)).0)

pub returns-in_err-news-clause-err : goal.returns-in_err-news-clause-err
unfolding found
returns-in_err-news-clause-err c =
    let p = err_from_is_err_and c.from_residual-in_err-news.result c.from_residual-in_err-news.ensures.1 in
    rw (p.1, p.2) (refl, refusal_lines _ _ _ (ends_new _ _ _ _ _ (load_holds _ _ _ c.in_ok-olds.ensures) _ (load_spoilt _ _ _ c.in_err-news.ensures)).0)

pub returns-clause-ok : goal.returns-clause-ok
unfolding found
returns-clause-ok c =
    let d = c.put_done.ensures in
    let v = c.in_ok-judged.ensures in
    let e = change_lines _ _ _ _ _ _ (load_holds _ _ _ c.in_ok-olds.ensures) (load_holds _ _ _ c.in_ok-news.ensures) _ v.0 v.1 in
    (d.value.0 ∙ ap length (sym e), d.value.1, d.text_after ∙ ap (put c.args.text.now 0) (sym e))
