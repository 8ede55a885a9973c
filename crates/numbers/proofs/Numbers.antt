-- A list of numbers taken entry by entry, and filled task by task.
use Prim.Native.Nat.{ℕ, zero, suc, ◌<◌, ◌+◌, ◌*◌, ◌-◌}
use mathlib.Core.Path.{◌≡◌, refl, ap, ◌∙◌}
use mathlib.Core.List.{List, [], ◌++◌}
use native.Mathlib.Nat.{mul-zero, mul-suc}
use native.Mathlib.Numerals.{add-one}
use native.Mathlib.Omega.{arith}
use lib.ListN.{length, get_or, take, drop}
use Rattle.std.specs.Simd.{first_chunks}
use lib.Seq.{drop-drop}
use Rattle.base.specs.Lists.{up_to}
use Rattle.base.proofs.Lists.{up_length, put_part, flat_one}
use Rattle.block.specs.declared.Task.{Task}
use Rattle.block.specs.Format.{list_size}
use Rattle.block.specs.Record.{numbers_of}
use Rattle.block.specs.Block.{list_of, numbers_part}
use Rattle.layout.proofs.Lists.{list_length}

-- the entry at a place of the list's chunks
chunk_at : (l : List ℕ) (w n k : ℕ) → k < n → get_or (first_chunks w n l) k [] ≡ take w (drop (w * k) l)
chunk_at l w zero k h = absurd (omega arith)
chunk_at l w (suc n) zero h = rw (mul-zero w) refl
chunk_at l w (suc n) (suc k) h =
    let e : w * suc k ≡ w + w * k = omega (arith, mul-suc w k) in
    chunk_at (drop w l) w n k (omega arith) ∙ rw (e, drop-drop (w * k) w l) refl

pub entry_part : (l : List ℕ) (n k : ℕ) → k < n → get_or (first_chunks list_size n l) k [] ≡ numbers_part l k
entry_part l n k h =
    let e : list_size * k + list_size - list_size * k ≡ list_size = omega arith in
    chunk_at l list_size n k h ∙ rw e refl

-- one task more
pub list_more : (f : ℕ → Task) (l l₀ piece : List ℕ) (k : ℕ) → l ≡ list_of (up_to f k) ++ drop (list_size * k) l₀ → piece ≡ numbers_of (f k)
    → take (list_size * k) l ++ (piece ++ drop (list_size * k + list_size - list_size * k) (drop (list_size * k) l)) ≡ list_of (up_to f (k + 1)) ++ drop (list_size * (k + 1)) l₀
unfolding up_to
list_more f l l₀ piece k e p =
    let m : list_size * suc k ≡ list_size * k + list_size = omega arith in
    let n : length (list_of (up_to f k)) ≡ list_size * k = list_length (up_to f k) ∙ ap (λ (j : ℕ). list_size * j) (up_length f k) in
    rw (add-one, m, e, p, flat_one numbers_of (up_to f k) (f k), ← drop-drop list_size (list_size * k) l₀)
    (put_part (list_of (up_to f k)) (drop (list_size * k) l₀) (numbers_of (f k)) (list_size * k) list_size n)
