-- The change fits, then a line for each task; the three puts are the text.
use Rattle.std.proofs.Common.{rules, arith, ◌≡◌, ◌+◌, ◌≤◌, length, ap, ◌∙◌}
use Rattle.block.specs.Block.{listed}
use Rattle.block.proofs.Tables.{listed_length}
use Rattle.lines.specs.Put.{next, written, put}
use Rattle.lines.proofs.Put.{next_fits, written_fits}
use Rattle.lines.specs.Words.{change_line}
use Rattle.lines.proofs.Words.{change_room, change_line_lem}
use Rattle.render.proofs.Printed.{news_lines, done_long, done_built}
use Rattle.render.proofs.put_done.Goals as goal

pub returns : goal.returns
returns c =
    let old = c.args.olds.now in
    let new = c.args.news.now in
    let olds = listed old.table in
    let news = listed new.table in
    let text = c.args.text.now in
    let report = c.args.report.now in
    let line = change_line old.mode new.mode in
    let room = change_room old.mode new.mode (search rules) (search rules) in
    let fits : 0 + length line ≤ length text = omega (arith, room, c.requires.2) in
    let same = change_line_lem old.mode new.mode c.from.result c.from-2.result c.from.ensures c.from-2.ensures in
    let l = c.put_line-first in
    let first : l.result ≡ 0 + length line = l.ensures.value ∙ ap (next text 0) same ∙ next_fits text 0 line fits in
    let start : l.new.buf ≡ put text 0 line = l.ensures.buf_after ∙ ap (written text 0) same ∙ written_fits text 0 line fits in
    let p = c.put_tasks-middle.ensures in
    let q = c.put_tasks.ensures in
    let m = news_lines report old.table.count olds news (listed_length 0 old.table c.requires.0) in
    record {
      value = (omega (arith, done_long old.mode new.mode olds news report, first, p.value.0, q.value.0, ap length m), omega (arith, first, room, p.value.1, q.value.1, c.requires.0.few, c.requires.1.few));
      text_after = done_built old.mode new.mode olds news report text l.new.buf c.put_tasks-middle.new.text c.put_tasks.new.text l.result c.put_tasks-middle.result start first p.text_after p.value.0 (q.text_after ∙ ap (put c.put_tasks-middle.new.text c.put_tasks-middle.result) m);
    }
