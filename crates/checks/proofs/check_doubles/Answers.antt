-- `check_doubles` names the first record that bears what an earlier one bears.
use Rattle.std.proofs.Common.{ℕ, sym, ap, ◌∙◌, arith}
use Rattle.std.proofs.lemmas.Grind.{common_steps}
use Rattle.base.specs.Lists.{up_to}
use Rattle.base.proofs.Lists.{up_length}
use Rattle.block.specs.Record.{task_of}
use Rattle.block.specs.Answers.{first_of}
use Rattle.block.specs.Checks.{double_check}
use Rattle.block.specs.Block.{record_part, tasks_in}
use Rattle.checks.proofs.Doubles.{double_is}
use Rattle.checks.proofs.check_doubles.Goals as goal

pub returns : goal.returns
returns c =
    let r = c.args.records in
    let double = double_check c.args.side (tasks_in r.block.now r.count) in
    c.first_refusal.ensures double (λ k v h met. grind (arith, common_steps, double_is (λ j. task_of (record_part r.block.now j)) c.args.side r.count k h))
    ∙ ap (λ (n : ℕ). first_of (up_to double n)) (sym (up_length (λ k. task_of (record_part r.block.now k)) r.count))
