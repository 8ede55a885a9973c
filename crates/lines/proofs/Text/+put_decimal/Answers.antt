use Rattle.std.proofs.Common.{arith}
use Rattle.lines.proofs.Puts.{puts_number}
use Rattle.lines.proofs.Text.+put_decimal.Goals as goal

pub returns : goal.returns
returns t c = puts_number _ _ _ _ c.ranges.n.fits (omega arith) c.put.ensures (grind arith)
