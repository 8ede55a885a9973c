-- The line fits, and is put at its place.
use Rattle.std.proofs.Common.{rules, arith}
use Rattle.lines.proofs.Put.{next_fits}
use Rattle.render.proofs.Printed.{task_line_lem, task_room}
use Rattle.render.proofs.put_task.Goals as goal

pub returns-clause-value : goal.returns-clause-value
returns-clause-value c = grind (arith, next_fits, task_line_lem, task_room c.args.task.now c.args.row.now c.told-row (search rules) c.fits-row)
