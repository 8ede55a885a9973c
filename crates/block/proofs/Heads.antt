-- The ways out of the checks of a seal and of a head, and what those that pass tell: the block's length, check, mark, side and count.
use Prim.Native.Nat.{ℕ, ◌≤◌}
use mathlib.Core.Path.{◌≡◌, ◌∙◌}
use mathlib.Core.Bool.{Bool, true, false, not, ◌&&◌}
use mathlib.Core.List.{List, [], ◌∷◌}
use lib.Dec.{eqb, leb}
use lib.ListN.{length}
use borrow.Author.Tests.{eqb-true, leb-true, not-false}
use Rattle.base.specs.Lists.{part}
use Rattle.base.proofs.Lists.{and_left, and_right}
use Rattle.std.specs.Prelude.{Ok, Err}
use Rattle.block.specs.declared.Answer.{Answer}
use Rattle.block.specs.Format.{block_size, head_size, most_tasks, check_place}
use Rattle.block.specs.Record.{word_at, all_zero}
use Rattle.block.specs.Answers.{refusal, refuse, first_of}
use Rattle.block.specs.Block.{check_of, marked, headed, seal_checks, head_checks, side_byte, count_byte}
use Rattle.block.proofs.Verdicts.{first_at, first_on, first_stop, first_left, first_right, refuse_passed}

-- ---- ways out

-- the check and the sum as the code has them
pub sealed_as : (b : List ℕ) (w s : ℕ) (t : Bool) → w ≡ word_at b check_place → s ≡ check_of b → eqb w s ≡ t → eqb (word_at b check_place) (check_of b) ≡ t
sealed_as b w s t p q e = rw (← p, ← q) e

module _ (side place : ℕ) (b : List ℕ) where
  pub seal_short : eqb (length b) block_size ≡ false → first_of (seal_checks side place b) ≡ Err (refusal 1 side place)
  unfolding first_of seal_checks
  seal_short e = rw e

module _ (side place : ℕ) (b : List ℕ) (long : eqb (length b) block_size ≡ true) where
  pub seal_wrong : eqb (word_at b check_place) (check_of b) ≡ false → first_of (seal_checks side place b) ≡ Err (refusal 2 side place)
  unfolding first_of seal_checks
  seal_wrong e = rw (long, e)

  pub seal_passes : eqb (word_at b check_place) (check_of b) ≡ true → first_of (seal_checks side place b) ≡ Ok tt
  unfolding first_of seal_checks
  seal_passes e = rw (long, e)

module _ (side : ℕ) (b : List ℕ) where
  pub head_unsealed : (a : Answer) → first_of (seal_checks side 0 b) ≡ Err a → first_of (head_checks side b) ≡ Err a
  unfolding head_checks
  head_unsealed a e = first_stop (seal_checks side 0 b) _ a e

  module _ (seal : first_of (seal_checks side 0 b) ≡ Ok tt) where
    pub head_unmarked : marked b ≡ false → first_of (head_checks side b) ≡ Err (refusal 3 side 0)
    unfolding first_of head_checks
    head_unmarked e = first_on (seal_checks side 0 b) _ seal ∙ rw e

module _ (side : ℕ) (b : List ℕ) (seal : first_of (seal_checks side 0 b) ≡ Ok tt) (mark : marked b ≡ true) where
  pub head_wrong : headed side b ≡ false → first_of (head_checks side b) ≡ Err (refusal 4 side 0)
  unfolding first_of head_checks
  head_wrong e = first_on (seal_checks side 0 b) _ seal ∙ rw (mark, e)

  pub head_passes : headed side b ≡ true → first_of (head_checks side b) ≡ Ok tt
  unfolding first_of head_checks
  head_passes e = first_on (seal_checks side 0 b) _ seal ∙ rw (mark, e)

-- ---- a seal that passes: the block's length, and its last word is the check

module _ (side place : ℕ) (b : List ℕ) (passed : first_of (seal_checks side place b) ≡ Ok tt) where
  pub seal_length : length b ≡ block_size
  unfolding seal_checks
  seal_length = eqb-true (length b) block_size (not-false _ (refuse_passed _ (refusal 1 side place) (first_at (seal_checks side place b) passed 0)))

  pub seal_check : word_at b check_place ≡ check_of b
  unfolding seal_checks
  seal_check = eqb-true _ _ (not-false _ (refuse_passed _ (refusal 2 side place) (first_at (seal_checks side place b) passed 1)))

-- ---- a head that passes

-- the parts of four tests that all hold
module _ (a b c d : Bool) (e : a && b && c && d ≡ true) where
  first : a ≡ true
  first = and_left a b (and_left (a && b) c (and_left (a && b && c) d e))

  second : b ≡ true
  second = and_right a b (and_left (a && b) c (and_left (a && b && c) d e))

  third : c ≡ true
  third = and_right (a && b) c (and_left (a && b && c) d e)

module _ (side : ℕ) (b : List ℕ) where
  pub headed_side : headed side b ≡ true → side ≤ 1
  unfolding headed
  headed_side e = leb-true side 1 (first (leb side 1) (eqb (side_byte b) side) (leb (count_byte b) most_tasks) (all_zero (part b 6 head_size)) e)

  pub headed_own : headed side b ≡ true → side_byte b ≡ side
  unfolding headed
  headed_own e = eqb-true (side_byte b) side (second (leb side 1) (eqb (side_byte b) side) (leb (count_byte b) most_tasks) (all_zero (part b 6 head_size)) e)

  pub headed_count : headed side b ≡ true → count_byte b ≤ most_tasks
  unfolding headed
  headed_count e = leb-true (count_byte b) most_tasks (third (leb side 1) (eqb (side_byte b) side) (leb (count_byte b) most_tasks) (all_zero (part b 6 head_size)) e)

  module _ (passed : first_of (head_checks side b) ≡ Ok tt) where
    pub head_sealed : first_of (seal_checks side 0 b) ≡ Ok tt
    unfolding head_checks
    head_sealed = first_left (seal_checks side 0 b) _ passed

    pub head_length : length b ≡ block_size
    head_length = seal_length side 0 b head_sealed

    pub head_marked : marked b ≡ true
    unfolding head_checks
    head_marked = not-false _ (refuse_passed _ (refusal 3 side 0) (first_at (refuse (not (marked b)) (refusal 3 side 0) ∷ _ ∷ []) (first_right (seal_checks side 0 b) _ passed) 0))

    pub head_headed : headed side b ≡ true
    unfolding head_checks
    head_headed = not-false _ (refuse_passed _ (refusal 4 side 0) (first_at (_ ∷ refuse (not (headed side b)) (refusal 4 side 0) ∷ []) (first_right (seal_checks side 0 b) _ passed) 1))
