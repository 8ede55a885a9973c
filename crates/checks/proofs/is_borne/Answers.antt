-- `is_borne` says whether an earlier record bears what record k bears.
use Rattle.std.proofs.Common.{◌≡◌, true, sym, arith}
use Rattle.block.specs.Record.{task_of}
use Rattle.block.specs.Checks.{alike}
use Rattle.block.specs.Block.{record_part}
use Rattle.checks.proofs.Doubles.{borne_at}
use Rattle.checks.proofs.is_borne.Goals as goal

pub returns-then-are_alike : goal.returns-then-are_alike
returns-then-are_alike c =
    let b = c.args.records.block.now in
    let same : alike (task_of (record_part b c.loop-j.j)) (task_of (record_part b c.args.k)) ≡ true = grind arith in
    sym (borne_at (λ j. task_of (record_part b j)) _ c.loop-j.j c.args.k (omega arith) same)
