-- The text of an input is told by its first 1,025 bytes: a new block of more than 512 bytes is refused, however long it is.
use Rattle.std.proofs.Common.{◌≡◌, ◌≢◌, ℕ, ◌≤◌, ◌<◌, List, length, length-take-le, drop, take, arith, sym, ap, ◌∙◌, ne_eqb}
use Rattle.std.proofs.lemmas.List.{drop-take, take-take, take_all}
use mathlib.Core.Logic.{⊎_elim}
use Rattle.base.proofs.Search.{le_or_lt}
use Rattle.block.specs.Answers.{refusal, first_of}
use Rattle.block.specs.Block.{spoilt, reading_of, block_verdict, head_checks, seal_checks}
use Rattle.pair.specs.Analysis.{analyse_of}
use Rattle.render.specs.Printed.{printed, pair_lines, found, old_block, new_block}

-- a block of another length is refused for that
wrong_length : (side : ℕ) (b : List ℕ) → length b ≢ 512 → reading_of side b ≡ spoilt (refusal 1 side 0)
unfolding reading_of block_verdict head_checks seal_checks first_of
wrong_length side b h = rw (ne_eqb (length b) 512 h)

-- so a byte more than a block says as much as all that is there
longer : (side : ℕ) (b : List ℕ) → reading_of side (take 513 b) ≡ reading_of side b
longer side b =
    ⊎_elim
    (λ (short : length b ≤ 513). ap (reading_of side) (take_all 513 b short))
    (λ (long : 513 < length b).
    let cut : length (take 513 b) ≡ 513 = length-take-le 513 b (omega arith) in
    wrong_length side (take 513 b) (λ e. omega (arith, cut, e)) ∙ sym (wrong_length side b (λ e. omega (arith, long, e))))
    (le_or_lt (length b) 513)

-- two blocks are told by the old one and by what the new one reads as
same_lines : (old new new' : List ℕ) → reading_of 1 new ≡ reading_of 1 new' → pair_lines old new ≡ pair_lines old new'
unfolding pair_lines found analyse_of
same_lines old new new' h = rw h

pub enough : (input : List ℕ) → printed (take 1025 input) ≡ printed input
unfolding printed old_block new_block
enough input =
    let olds : take 512 (take 1025 input) ≡ take 512 input = take-take 512 1025 input (omega arith) in
    let news : drop 512 (take 1025 input) ≡ take 513 (drop 512 input) = drop-take 512 513 input in
    ap (λ o. pair_lines o (drop 512 (take 1025 input))) olds
    ∙ ap (pair_lines (take 512 input)) news
    ∙ same_lines (take 512 input) (take 513 (drop 512 input)) (drop 512 input) (longer 1 (drop 512 input))
