use Rattle.std.proofs.Common.{rules}
use Rattle.base.proofs.Lists.{over_end}
use Rattle.base.proofs.copy_over.Goals as goal

pub returns : goal.returns
returns g c = over_end _ c.args.dst.now c.args.src.now c.min-n.result c.min-n.ensures (rw c.copy_from_slice.ensures.after (search rules))
