-- `records_of` gives no more records than a block has room for.
use Rattle.std.proofs.Common.{◌≡◌, sym, ◌∙◌, Ok, arith}
use Rattle.block.proofs.Heads.{head_headed, headed_count}
use Rattle.block.specs.Answers.{first_of}
use Rattle.block.specs.Block.{head_checks}
use Rattle.checks.proofs.records_of.Goals as goal

pub invariant_of-records-clause-few : goal.invariant_of-records-clause-few
invariant_of-records-clause-few c =
    let passed : first_of (head_checks c.args.side c.args.block.now) ≡ Ok tt = sym c.check_head.ensures ∙ c.in_ok-check_head.was in
    omega (arith, c.from.ensures, headed_count _ _ (head_headed _ _ passed))
