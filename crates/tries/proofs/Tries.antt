-- A list that is filled with tasks to its end.
use Rattle.std.proofs.Common.{ℕ, ◌*◌, ◌≤◌, ◌≡◌, List, ◌++◌, append-nil, length, drop, ap, ◌∙◌}
use lib.ListN.{drop_of_length-le}
use Rattle.base.specs.Lists.{up_to}
use Rattle.block.specs.declared.Task.{Task}
use Rattle.block.specs.Format.{list_size}
use Rattle.block.specs.Block.{list_of}

pub list_whole : (f : ℕ → Task) (l l₀ : List ℕ) (k n : ℕ) → k ≡ n → length l₀ ≤ list_size * n → l ≡ list_of (up_to f k) ++ drop (list_size * k) l₀ → l ≡ list_of (up_to f n)
list_whole f l l₀ k n e h p =
    p ∙ ap (λ (m : ℕ). list_of (up_to f m) ++ drop (list_size * m) l₀) e ∙ ap (λ (d : List ℕ). list_of (up_to f n) ++ d) (drop_of_length-le l₀ h) ∙ append-nil _
