-- An entry and its task: either says the other, an entry fits exactly if its task is small, and the entries of a list that pass.
use Prim.Native.Nat.{ℕ, ◌+◌, ◌*◌, ◌-◌, ◌<◌}
use mathlib.Core.Path.{◌≡◌, refl, ◌∙◌}
use mathlib.Core.Bool.{true, not}
use mathlib.Core.List.{List, [], ◌∷◌}
use native.Mathlib.Omega.{arith}
use lib.Dec.{ltb}
use lib.ListN.{length, get_or, drop, length-take, length-drop}
use lib.Seq.{take_all, get_or-take, get_or-drop}
use borrow.Author.Tests.{lt-ltb, ltb-true, not-false}
use Rattle.base.specs.Lists.{part, up_to, every}
use Rattle.base.proofs.Lists.{up_list, every_at, and_left, and_right}
use Rattle.block.specs.declared.Task.{Task}
use Rattle.block.specs.Format.{list_size}
use Rattle.block.specs.Record.{all_below, fits, task_from, numbers_of}
use Rattle.std.specs.Prelude.{Ok}
use Rattle.block.specs.Answers.{refusal, refuse, first_of}
use Rattle.block.specs.Checks.{task_checks, number_checks}
use Rattle.block.specs.Block.{numbers_part, each_entry}
use Rattle.block.specs.Legal.{Small}
use Rattle.block.proofs.Verdicts.{refuse_passed, first_at, first_right, each_at}

pub entry_long : (x : Task) → length (numbers_of x) ≡ list_size
unfolding numbers_of
entry_long x = refl

-- ---- either says the other

pub entry_says : (x : Task) → task_from (numbers_of x) ≡ x
unfolding task_from numbers_of
entry_says x = refl

pub entry_again : (r : List ℕ) → length r ≡ list_size → numbers_of (task_from r) ≡ r
unfolding numbers_of task_from up_to
entry_again r e = up_list r 0 list_size (omega arith) ∙ take_all list_size r (omega arith)

-- ---- what fits

pub small_fits : (x : Task) → Small x → fits (numbers_of x) ≡ true
unfolding numbers_of every
small_fits x s =
    simp (
      lt-ltb _ _ s.kind,
      lt-ltb _ _ s.priority,
      lt-ltb _ _ s.number,
      lt-ltb _ _ s.period,
      lt-ltb _ _ s.deadline,
      lt-ltb _ _ s.execution,
      lt-ltb _ _ s.offset,
    )

module _ (l : List ℕ) (fit : fits l ≡ true) (long : length l ≡ list_size) where
  byte : (i : ℕ) → i < 2 → get_or l i 0 < 256
  byte i h =
      rw (get_or-take 2 l i 0 h) at (ltb-true (get_or (part l 0 2) i 0) 256 (every_at (λ n. ltb n 256) (part l 0 2) i 0 (and_left (all_below 256 (part l 0 2)) (all_below 65536 (part l 2 list_size)) fit)
      (simp length-take (omega arith))))

  half : (i : ℕ) → i < list_size - 2 → get_or l (2 + i) 0 < 65536
  half i h =
      rw (get_or-take (list_size - 2) (drop 2 l) i 0 h, get_or-drop 2 l i 0) at (ltb-true (get_or (part l 2 list_size) i 0) 65536 (every_at (λ n. ltb n 65536) (part l 2 list_size) i 0
      (and_right (all_below 256 (part l 0 2)) (all_below 65536 (part l 2 list_size)) fit) (simp (length-take, length-drop) (omega arith))))

  pub entry_small : Small (task_from l)
  unfolding task_from
  entry_small = record {
    kind = byte 0 (omega arith);
    priority = byte 1 (omega arith);
    number = half 0 (omega arith);
    period = half 1 (omega arith);
    deadline = half 2 (omega arith);
    execution = half 3 (omega arith);
    offset = half 4 (omega arith);
  }

-- ---- the entries of a list that passes

module _ (side : ℕ) (l : List ℕ) (n : ℕ) (passed : first_of (each_entry side l n) ≡ Ok tt) where
  entry_passed : (k : ℕ) → k < n → first_of (number_checks side k (numbers_part l k)) ≡ Ok tt
  entry_passed k h = each_at (λ k. first_of (number_checks side k (numbers_part l k))) n k h passed

  pub entry_fits : (k : ℕ) → k < n → fits (numbers_part l k) ≡ true
  entry_fits k h = not-false _ (refuse_passed _ (refusal 5 side k) (first_at (number_checks side k (numbers_part l k)) (entry_passed k h) 0))

  -- its task passes too
  pub entry_task : (k : ℕ) → k < n → first_of (task_checks side k (task_from (numbers_part l k))) ≡ Ok tt
  entry_task k h =
      first_right (refuse (not (fits (numbers_part l k))) (refusal 5 side k) ∷ []) (task_checks side k (task_from (numbers_part l k))) (entry_passed k h)

  pub entries_small : length l ≡ list_size * n → (k : ℕ) → k < n → Small (task_from (numbers_part l k))
  entries_small e k h =
      entry_small (numbers_part l k) (entry_fits k h) (simp (length-take, length-drop) (omega arith))

-- a small task that passes
pub entry_passes : (side k : ℕ) (x : Task) → Small x → first_of (task_checks side k x) ≡ Ok tt → first_of (number_checks side k (numbers_of x)) ≡ Ok tt
unfolding first_of
entry_passes side k x s e = rw (small_fits x s, entry_says x) e
