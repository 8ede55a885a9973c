-- The sweep is what the paper says: the largest window over all phases with the smallest phase that gives it, or the smallest late phase.
use Prim.Native.Nat.{ℕ, zero, suc, ◌≤◌, ◌<◌}
use mathlib.Core.Path.{◌≡◌, refl}
use mathlib.Core.Bool.{cond}
use Rattle.std.specs.Prelude.{Option, None, Some, Result, Ok, Err}
use mathlib.Core.Logic.{⊎_elim}
use lib.Dec.{ltb}
use borrow.Author.Tests.{le-ltb, lt-ltb}
use native.Mathlib.Omega.{arith}
use native.Mathlib.Nat.{eq-or-lt_of_le}
use Rattle.base.specs.Search.{window_of}
use Rattle.base.proofs.Search.{window_found, le_or_lt}
use Rattle.window.specs.declared.Worst.{Worst}
use Rattle.window.specs.Worst.{take_of, next_of, sweep}

at_same : (r : Option ℕ) (a b : ℕ) → r ≡ Some a → r ≡ Some b → a ≡ b
at_same r a b p q = cc

pub record IsWorst (g : ℕ → Option ℕ) (n : ℕ) (s : Worst) : Type 0 where
  pub top : (x : ℕ) → 1 ≤ x → x ≤ n → (t : ℕ) × (g x ≡ Some t) × (t ≤ s.window)
  pub early : (x t : ℕ) → 1 ≤ x → x < s.phase → g x ≡ Some t → t < s.window
  pub within : s.phase ≤ n
  pub gives : 1 ≤ n → (1 ≤ s.phase) × (g s.phase ≡ Some s.window)
  pub empty : n ≡ 0 → s.window ≡ 0

pub record IsLate (g : ℕ → Option ℕ) (n y : ℕ) : Type 0 where
  pub first : 1 ≤ y
  pub within : y ≤ n
  pub late : g y ≡ None
  pub early : (x : ℕ) → 1 ≤ x → x < y → (t : ℕ) × (g x ≡ Some t)

abbrev pub IsSwept : (ℕ → Option ℕ) → ℕ → Result Worst ℕ → Type 0
IsSwept g n (Ok s) = IsWorst g n s
IsSwept g n (Err y) = IsLate g n y

module _ (g : ℕ → Option ℕ) (pos : (x t : ℕ) → g x ≡ Some t → 1 ≤ t) where
  step_at : (n : ℕ) (s : Worst) (t : ℕ) → IsWorst g n s → g (suc n) ≡ Some t → IsWorst g (suc n) (take_of s t (suc n))
  unfolding take_of
  step_at n s t k e = ⊎_elim notlarger larger (le_or_lt t s.window)
    where
      larger : s.window < t → IsWorst g (suc n) (cond (ltb s.window t) (record { window = t; phase = suc n }) s)
      larger h =
          rw (lt-ltb s.window t h)
          (record {
            top = λ x a b. ⊎_elim (λ q. (t, rw q e, omega arith)) (λ q. let m = k.top x a (omega arith) in (m.0, m.1, omega (arith, m.2))) (eq-or-lt_of_le b);
            early = λ x u a b q. let m = k.top x a (omega arith) in let i : u ≡ m.0 = at_same (g x) u m.0 q m.1 in omega (arith, m.2);
            within = omega arith;
            gives = λ a. (omega arith, e);
            empty = λ a. absurd (omega arith);
          })

      notlarger : t ≤ s.window → IsWorst g (suc n) (cond (ltb s.window t) (record { window = t; phase = suc n }) s)
      notlarger h =
          rw (le-ltb s.window t h)
          (record {
            top = λ x a b. ⊎_elim (λ q. (t, rw q e, h)) (λ q. k.top x a (omega arith)) (eq-or-lt_of_le b);
            early = k.early;
            within = omega (arith, k.within);
            gives = λ a. ⊎_elim (λ q. absurd (omega (arith, k.empty (omega arith), pos (suc n) t e))) (λ q. k.gives q) (le_or_lt n 0);
            empty = λ a. absurd (omega arith);
          })

  step_swept : (n : ℕ) (r : Result Worst ℕ) (o : Option ℕ) → g (suc n) ≡ o → IsSwept g n r → IsSwept g (suc n) (next_of r o (suc n))
  unfolding next_of
  step_swept n (Err y) o e k = record { first = k.first; within = omega (arith, k.within); late = k.late; early = k.early }
  step_swept n (Ok s) (Some t) e k = step_at n s t k e
  step_swept n (Ok s) None e k = record { first = omega arith; within = omega arith; late = e; early = λ x a b. let m = k.top x a (omega arith) in (m.0, m.1) }

  is_swept : (n : ℕ) → IsSwept g n (sweep g n)
  unfolding sweep
  is_swept zero = record { top = λ x a b. absurd (omega arith); early = λ x t a b e. absurd (omega arith); within = omega arith; gives = λ a. absurd (omega arith); empty = λ a. refl }
  is_swept (suc n) = step_swept n (sweep g n) (g (suc n)) refl (is_swept n)

-- windows are at least 1, so this holds of them
pub sweep_is : (f : ℕ → ℕ → ℕ) (limit n : ℕ) → IsSwept (λ x. window_of (f x) limit) n (sweep (λ x. window_of (f x) limit) n)
sweep_is f limit n = is_swept (λ x. window_of (f x) limit) (λ x t e. (window_found (f x) limit t e).first) n
