use Rattle.std.specs.Prelude.{Ok, Err}
use Rattle.std.proofs.lemmas.Result.{err_from_is_err_and}
use mathlib.Core.Path.{refl, sym}
use native.Mathlib.Omega.{arith}
use Rattle.base.specs.Lists.{up_to}
use Rattle.block.specs.Answers.{first_of}
use Rattle.block.proofs.Verdicts.{each_more, each_stop}
use Rattle.rules.proofs.first_refusal.Goals as goal

pub loop-k-init : goal.loop-k-init
unfolding up_to first_of
loop-k-init g c = λ f is. refl

pub returns-in_err-check : goal.returns-in_err-check
returns-in_err-check g c = λ f is.
    let p = err_from_is_err_and c.from_residual.result c.from_residual.ensures.1 in
    rw (p.1, p.2) (sym (each_stop f c.args.n c.loop-k.k _ (omega arith) (c.loop-k.invariant f is) (sym (is c.loop-k.k (Err c.in_err-check.field-0.0) (omega arith) c.in_err-check.ensures))))

pub loop-k-preserved : goal.loop-k-preserved
loop-k-preserved g c = λ f is.
    each_more f c.loop-k.k (c.loop-k.invariant f is) (sym (is c.loop-k.k (Ok tt) (omega arith) c.in_ok-check.ensures))
