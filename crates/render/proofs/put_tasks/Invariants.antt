-- What the lines from the next task on would leave, put from the place on, is what all lines leave.
use Rattle.std.proofs.Common.{◌≡◌, ◌+◌, ◌*◌, ◌≤◌, length, drop}
use Rattle.block.specs.Block.{listed}
use Rattle.lines.specs.Put.{put}
use Rattle.render.specs.Printed.{task_lines, most_line}
use Rattle.render.proofs.put_tasks.Given as goal

abbrev pub invariant-loop-task : goal.invariant-loop-task
invariant-loop-task l =
    record {
      can : (goal.iterator-loop-task).can_next l.task-iterator;
      finite : (goal.iterator-loop-task).is_finite l.task-iterator;
      few : length l.yielded ≤ l.table.count;
      end : l.end ≤ l.at + most_line * length l.yielded;
      ends : l.end + length (task_lines l.numbers (length l.yielded) (drop (length l.yielded) (listed l.table))) ≡ l.at + length (task_lines l.numbers 0 (listed l.table));
      lines : put l.text l.end (task_lines l.numbers (length l.yielded) (drop (length l.yielded) (listed l.table))) ≡ put l.fn.text l.at (task_lines l.numbers 0 (listed l.table));
    }
