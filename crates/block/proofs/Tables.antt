-- A table filled task by task, and the tasks that a table lists.
use Prim.Native.Nat.{ℕ, suc, ◌+◌, ◌-◌, ◌<◌}
use mathlib.Core.Path.{◌≡◌, sym, subst, ◌∙◌}
use mathlib.Core.List.{List, [], ◌∷◌, ◌++◌, append_assoc}
use native.Mathlib.Numerals.{add-one}
use native.Mathlib.Omega.{arith}
use lib.ListN.{length, get_or, set, replicate, length-append, length-replicate}
use lib.Seq.{set_at, get_or-take, take-append_seam, length-take-le}
use Rattle.base.specs.Lists.{up_to}
use Rattle.base.proofs.Lists.{up_length}
use Rattle.block.specs.declared.Task.{Task}
use Rattle.block.specs.declared.Table.{Table}
use Rattle.block.specs.Format.{most_tasks}
use Rattle.block.specs.Checks.{no_task}
use Rattle.block.specs.Block.{table_of, listed}
use Rattle.block.specs.Legal.{Legal, Tabled}

-- one task more
pub table_more : (f : ℕ → Task) (l : List Task) (x : Task) (k : ℕ) → k < most_tasks → l ≡ up_to f k ++ replicate (most_tasks - k) no_task → x ≡ f k
    → set l k x ≡ up_to f (k + 1) ++ replicate (most_tasks - (k + 1)) no_task
unfolding up_to
table_more f l x k h e q =
    let m : most_tasks - k ≡ suc (most_tasks - suc k) = omega arith in
    rw (add-one, e, m, set_at (up_to f k) no_task (replicate (most_tasks - suc k) no_task) x k (up_length f k), q)
    (sym (append_assoc (up_to f k) (f k ∷ []) (replicate (most_tasks - suc k) no_task)))

-- the whole table
pub table_is : (f : ℕ → Task) (t : Table) (n k : ℕ) → k ≡ n → t.count ≡ n → t.tasks ≡ up_to f k ++ replicate (most_tasks - k) no_task → t ≡ table_of (up_to f n)
table_is f t n k h c e =
    let l : length (up_to f n) ≡ n = up_length f n in
    let g : t.tasks ≡ up_to f n ++ replicate (most_tasks - length (up_to f n)) no_task = rw (l, ← h) e in
    let d : t.count ≡ length (up_to f n) = c ∙ sym l in
    λ i. record { tasks = g i; count = d i }

-- a table of some tasks lists them, and keeps the rules that they keep
pub table_listed : (xs : List Task) → listed (table_of xs) ≡ xs
table_listed xs = take-append_seam xs _

pub table_tabled : (side : ℕ) (xs : List Task) → Legal side xs → Tabled side (table_of xs)
table_tabled side xs h =
    record {
      places = simp (length-append, length-replicate) (omega (arith, h.few));
      few = h.few;
      legal = subst (λ (l : List Task). Legal side l) (sym (table_listed xs)) h;
    }

-- place by place
module _ (side : ℕ) (t : Table) (h : Tabled side t) where
  pub listed_length : length (listed t) ≡ t.count
  listed_length = length-take-le t.count t.tasks (omega (arith, h.places, h.few))

  pub listed_at : (j : ℕ) → j < t.count → get_or (listed t) j no_task ≡ get_or t.tasks j no_task
  listed_at j l = get_or-take t.count t.tasks j no_task l
