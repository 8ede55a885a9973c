-- The cases of what is printed hold of the definitions that the contracts cite.
use mathlib.Core.Path.{◌≡◌, refl}
use mathlib.Core.List.{map, flat_map}
use Rattle.base.specs.Lists.{up_to, every, any}
use Rattle.lines.specs.Line.{digits, decimal, spaced, rest_of, line_of}
use Rattle.lines.specs.Words.{change_line, letter_at}
use Rattle.lines.specs.Cases.{found_in, expected_in}
use Rattle.block.specs.Answers.{first_of}
use Rattle.block.specs.Block.{word_sum, headed, seal_checks, head_checks, block_verdict, reading_of, head_of, body_of, block_of}
use Rattle.pair.specs.Analysis.{pair_of, analyse_of}
use Rattle.render.specs.Printed.{old_block, new_block, found, mode_held, tasks_held, refused_line, task_line, task_lines, done_lines, lines_of, pair_lines, printed}
use Rattle.render.specs.Cases.{cases}

pub cases_hold : map found_in cases ≡ map expected_in cases
unfolding cases old_block new_block found mode_held tasks_held refused_line task_line task_lines done_lines lines_of pair_lines printed digits decimal spaced rest_of line_of change_line letter_at head_of body_of block_of word_sum headed seal_checks head_checks block_verdict reading_of first_of every any up_to flat_map pair_of analyse_of
cases_hold = refl
