use Rattle.std.proofs.Common.{ℕ, ◌≡◌, ◌/◌, ◌<◌, ◌+◌, List, length, ap, ◌∙◌, arith}
use Rattle.block.specs.declared.Task.{Task}
use Rattle.block.specs.Format.{list_size}
use Rattle.block.specs.Record.{task_from, record_of, word_bytes}
use Rattle.block.specs.Block.{numbers_part, head_of}
use Rattle.numbers.proofs.Numbers.{entry_part}
use Rattle.layout.proofs.Entries.{entry_fits}
use Rattle.layout.proofs.Written.{head_long, grown, grown_none, grown_length, grown_more, grown_sealed}
use Rattle.maker.proofs.block_of.Goals as goal

-- the tasks of a list, one by one, and how many there are
abbrev tasks : List ℕ → ℕ → Task
tasks l k = task_from (numbers_part l k)

abbrev count : List ℕ → ℕ
count l = length l / list_size

pub loop-k-init : goal.loop-k-init
loop-k-init c =
    let a = c.args in
    let n = count a.list.now in
    let h = head_of a.side a.mode n in
    let e : c.empty_block-block.result ≡ grown h (tasks a.list.now) 0 = c.empty_block-block.ensures ∙ rw c.as_chunks.ensures.front_len (grown_none h (tasks a.list.now)) in
    (ap length e ∙ grown_length h (head_long a.side a.mode n) (tasks a.list.now) 0 (omega arith), e)

pub task_from-requires : goal.task_from-requires
task_from-requires c =
    let l = c.args.list.now in
    let inside : c.loop-k.k < count l = omega (arith, c.as_chunks.ensures.front_len) in
    rw (c.as_chunks.ensures.front, entry_part l (count l) c.loop-k.k inside) (entry_fits c.args.side l _ c.requires.1 c.loop-k.k inside)

pub loop-k-preserved : goal.loop-k-preserved
loop-k-preserved c =
    let a = c.args in
    let l = c.loop-k in
    let n = count a.list.now in
    let h = head_of a.side a.mode n in
    let inside : l.k < n = omega (arith, c.as_chunks.ensures.front_len) in
    let task : c.task_from.result ≡ tasks a.list.now l.k = rw (← entry_part a.list.now n l.k inside, ← c.as_chunks.ensures.front) c.task_from.ensures in
    let e = grown_more h (head_long a.side a.mode n) (tasks a.list.now) l.block _ l.k (omega arith) l.invariant.1 (c.put_record.ensures ∙ ap record_of task) in
    (ap length e ∙ grown_length h (head_long a.side a.mode n) (tasks a.list.now) (l.k + 1) (omega arith), e)

pub returns : goal.returns
returns c =
    let a = c.args in
    let l = c.loop-k in
    let n = count a.list.now in
    let e : l.k ≡ n = omega (arith, c.as_chunks.ensures.front_len) in
    grown_sealed a.side a.mode (tasks a.list.now) n (omega arith) l.block _ (l.invariant.1 ∙ ap (grown (head_of a.side a.mode n) (tasks a.list.now)) e) (c.put_check.ensures ∙ ap word_bytes c.check_of-sum.ensures)
