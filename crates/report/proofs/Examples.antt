-- What is printed for the paper's examples: case a gives its five lines, case c the line of its refusal, an input of a byte too many code 1.
use mathlib.Core.Path.{◌≡◌, refl}
use mathlib.Core.List.{[], ◌∷◌, ◌++◌, flat_map}
use Rattle.base.specs.Lists.{up_to, every, any}
use Rattle.base.specs.Sums.{sum_of}
use Rattle.base.specs.Numbers.{ceil, jobs_in, cut_in}
use Rattle.base.specs.Search.{first_where, window_of}
use Rattle.lines.specs.Line.{digits, decimal, spaced, rest_of, line_of}
use Rattle.lines.specs.Words.{change_line, letter_at}
use Rattle.block.specs.Record.{task_of, record_of}
use Rattle.block.specs.Answers.{first_of}
use Rattle.block.specs.Checks.{alike, task_checks, kind_on}
use Rattle.block.specs.Block.{word_sum, headed, seal_checks, head_checks, block_verdict, reading_of, head_of, body_of, block_of}
use Rattle.window.specs.Order.{rank}
use Rattle.window.specs.Demand.{sum_above, steady_demand, phase_demand, request_demand}
use Rattle.window.specs.Worst.{take_of, next_of, sweep}
use Rattle.row.specs.Row.{row_of}
use Rattle.pair.specs.Analysis.{analyse_of, pair_of}
use Rattle.render.specs.Printed.{old_block, new_block, found, mode_held, tasks_held, refused_line, task_line, task_lines, done_lines, lines_of, pair_lines, printed}
use Rattle.report.specs.Examples.{input_a, lines_a, line_c, line_long}

pub examples : (printed (input_a 20) ≡ lines_a) × (printed (input_a 8) ≡ line_c) × (printed (input_a 20 ++ (0 ∷ [])) ≡ line_long)
unfolding printed pair_lines old_block new_block found input_a lines_a line_c line_long block_of head_of body_of record_of word_sum reading_of block_verdict seal_checks head_checks headed task_checks kind_on task_of every any alike analyse_of pair_of lines_of done_lines change_line refused_line task_lines task_line letter_at mode_held tasks_held line_of rest_of spaced decimal digits up_to first_of row_of steady_demand phase_demand request_demand sum_above sum_of rank jobs_in cut_in ceil window_of first_where sweep next_of take_of flat_map
examples = (refl, refl, refl)
