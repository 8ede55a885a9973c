-- `check_entries` names the first entry that breaks a rule.
use Rattle.std.proofs.Common.{ℕ, arith, length, ap, ◌∙◌, ◌/◌}
use Rattle.std.proofs.lemmas.Grind.{common_steps}
use Rattle.block.specs.Format.{list_size}
use Rattle.block.specs.Answers.{first_of}
use Rattle.block.specs.Checks.{number_checks}
use Rattle.block.specs.Block.{numbers_part, each_entry}
use Rattle.numbers.proofs.Numbers.{entry_part}
use Rattle.lists.proofs.check_entries.Goals as goal

pub returns : goal.returns
returns c =
    let l = c.args.list.now in
    c.first_refusal.ensures (λ k. first_of (number_checks c.args.side k (numbers_part l k))) (λ k v h met. grind (arith, common_steps, entry_part l (length l / list_size) k (omega arith)))
    ∙ ap (λ (n : ℕ). first_of (each_entry c.args.side l n)) c.as_chunks.ensures.front_len
