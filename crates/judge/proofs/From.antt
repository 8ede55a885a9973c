-- The rows that the rolls of two tables give are those of document 01.
use Prim.Native.Nat.{ℕ, zero, suc, ◌≤◌}
use mathlib.Core.Path.{◌≡◌, refl}
use mathlib.Core.List.{List, map}
use native.Mathlib.Omega.{arith}
use Rattle.block.specs.declared.Task.{Task}
use Rattle.block.specs.Legal.{Legal}
use Rattle.window.specs.Order.{kind_at, kind_of}
use Rattle.window.specs.Demand.{own_time}
use Rattle.above.specs.Roll.{rolled}
use Rattle.row.specs.Row.{row_of}
use Rattle.row.proofs.Bridge.{completed_is, aborted_is, new_is}
use Rattle.judge.specs.From.{row_from}

module _ (i : Task) (some : 1 ≤ own_time i) (xs ys : List Task) (legal : Legal 0 xs) where
  by_kind : (q : ℕ) → i.kind ≡ q → row_from (kind_at q) (map rolled xs) (map rolled ys) i ≡ row_of xs ys i
  by_kind zero e = completed_is i some xs ys legal e
  by_kind (suc zero) e = aborted_is i some xs ys legal e
  by_kind (suc (suc q)) e = new_is i some xs ys legal (omega arith)

  pub row_is : row_from (kind_of i) (map rolled xs) (map rolled ys) i ≡ row_of xs ys i
  row_is = by_kind i.kind refl
