use Rattle.std.proofs.Common.{rules, arith, ◌≡◌, ◌≤◌, ◌/◌, [], length, length-take, get_or, ap, ◌∙◌}
use Rattle.std.proofs.lemmas.List.{length_push}
use Rattle.std.proofs.lemmas.Slice.Zip.{zip_turn, zip_end}
use Rattle.block.specs.Checks.{no_task}
use Rattle.block.specs.Block.{listed}
use Rattle.lines.proofs.Put.{put_nothing}
use Rattle.rows.specs.Rows.{row_size}
use Rattle.render.specs.Printed.{row_part}
use Rattle.render.proofs.Printed.{row_at, length_turn, put_turn, lines_end}
use Rattle.render.proofs.put_tasks.Goals as goal

pub loop-task-preserved : goal.loop-task-preserved
loop-task-preserved c =
    let xs = listed c.args.table.now in
    let numbers = c.args.numbers.now in
    let k = length c.loop-task.yielded in
    let p = c.put_task-end in
    let turn = zip_turn xs c.as_chunks.result.0.now c.loop-task.yielded c.into_iter-task-iterator.result c.loop-task.task-iterator c.next.new.self c.next.result (search rules) (search rules) c.loop-task.yielded_by (c.in-Some.task, c.in-Some.row) c.in-Some.is c.next.ensures.steps in
    let row : c.in-Some.row.now ≡ row_part numbers k = turn.3 [] ∙ ap (λ rows. get_or rows k []) c.as_chunks.ensures.front ∙ row_at numbers (length numbers / row_size) k [] (omega (arith, turn.1, c.as_chunks.ensures.front_len)) in
    let more = length_push c.loop-task.yielded (c.in-Some.task, c.in-Some.row) in
    rw more (record {
      can = search rules;
      finite = search rules;
      few = omega (arith, turn.0, length-take c.args.table.now.count c.args.table.now.tasks);
      end = omega (arith, p.ensures.value.1, c.loop-task.invariant.end);
      ends = length_turn numbers xs k c.loop-task.text p.new.text c.loop-task.end p.result c.in-Some.task.now c.in-Some.row.now turn.0 (turn.2 no_task) row p.ensures.value.0 ∙ c.loop-task.invariant.ends;
      lines = put_turn numbers xs k c.loop-task.text p.new.text c.loop-task.end p.result c.in-Some.task.now c.in-Some.row.now turn.0 (turn.2 no_task) row (omega arith) p.ensures.value.0 p.ensures.text_after ∙ c.loop-task.invariant.lines;
    })

pub returns : goal.returns
returns c =
    let xs = listed c.args.table.now in
    let last = zip_end xs c.as_chunks.result.0.now c.loop-task.yielded c.into_iter-task-iterator.result c.loop-task.task-iterator c.next.new.self c.next.result (search rules) (search rules) c.loop-task.yielded_by c.in-None.is c.next.ensures.steps in
    let all : length xs ≤ length c.loop-task.yielded = omega (arith, last, c.as_chunks.ensures.front_len, length-take c.args.table.now.count c.args.table.now.tasks, c.requires.room.1) in
    let none = lines_end c.args.numbers.now xs (length c.loop-task.yielded) all in
    record {
      value = (omega (arith, ap length none), omega arith);
      text_after = put_nothing c.loop-task.text c.loop-task.end ∙ rw none at c.loop-task.invariant.lines;
    }
