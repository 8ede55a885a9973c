-- `first_line` cuts a text at its first line feed, or else at its end.
use Rattle.std.proofs.Common.{◌≡◌, ◌<◌, length, eqb, Some, None, rules, tests, arith}
use Rattle.std.specs.List.{position}
use Rattle.std.proofs.lemmas.Iterator.{YieldsList-from_slice}
use Rattle.std.proofs.lemmas.Iterator.Search.{position_from_yields_List}
use Rattle.std.proofs.lemmas.Bool.Decides.{nat_tests}
use Rattle.says.proofs.Lines.{cut_to_end, cut_nowhere}
use Rattle.says.proofs.first_line.Goals as goal

pub returns-in-Some : goal.returns-in-Some
returns-in-Some c =
    let text = c.args.text.now in
    let e : Some c.in-Some.end ≡ position (λ b. eqb b 10) text = position_from_yields_List (λ b. eqb b 10) _ _ _ c.in-Some.ensures.ran (YieldsList-from_slice text c.iter.ensures.rest) (λ x b q k. search (rules, tests)) in
    cut_to_end text c.in-Some.end e

pub returns-in-None-2 : goal.returns-in-None-2
returns-in-None-2 c =
    let text = c.args.text.now in
    let e : None ≡ position (λ b. eqb b 10) text = position_from_yields_List (λ b. eqb b 10) _ _ _ c.in-None.ensures.ran (YieldsList-from_slice text c.iter.ensures.rest) (λ x b q k. search (rules, tests)) in
    let some : 0 < length text = grind (arith, nat_tests) in
    (cut_nowhere text e some, some)
