-- Laws of ordered checks: which one decides, and that where all pass each does.
use Prim.Native.Nat.{ℕ, zero, suc, ◌+◌, ◌<◌}
use mathlib.Core.Path.{◌≡◌, refl, sym, ap, ◌∙◌}
use mathlib.Core.Bool.{Bool, true, false}
use mathlib.Core.List.{List, [], ◌∷◌, ◌++◌}
use mathlib.Core.Logic.{⊎_elim}
use native.Mathlib.Nat.{eq-or-lt_of_le}
use native.Mathlib.Numerals.{add-one}
use native.Mathlib.Omega.{arith}
use lib.ListN.{get_or}
use Rattle.base.specs.Lists.{up_to}
use Rattle.block.specs.declared.Answer.{Answer}
use Rattle.block.specs.Answers.{Verdict, refuse, first_of}
use Rattle.std.specs.Prelude.{Ok, Err}

never : (a : Answer) → ◌≡◌ {A = Verdict} (Err a) (Ok tt) → ⊥
never a e = let z : ◌≡◌ {A = ℕ} 0 1 = cc in omega arith

pub refuse_passed : (t : Bool) (a : Answer) → refuse t a ≡ Ok tt → t ≡ false
refuse_passed true a e = absurd (never a e)
refuse_passed false a e = refl

-- ---- one list of checks after another

pub first_on : (xs ys : List Verdict) → first_of xs ≡ Ok tt → first_of (xs ++ ys) ≡ first_of ys
unfolding first_of
first_on [] ys e = refl
first_on (Ok u ∷ xs) ys e = first_on xs ys e
first_on (Err a ∷ xs) ys e = absurd (never a e)

pub first_stop : (xs ys : List Verdict) (a : Answer) → first_of xs ≡ Err a → first_of (xs ++ ys) ≡ Err a
unfolding first_of
first_stop [] ys a e = absurd (never a (sym e))
first_stop (Ok u ∷ xs) ys a e = first_stop xs ys a e
first_stop (Err b ∷ xs) ys a e = e

pub first_left : (xs ys : List Verdict) → first_of (xs ++ ys) ≡ Ok tt → first_of xs ≡ Ok tt
unfolding first_of
first_left [] ys e = refl
first_left (Ok u ∷ xs) ys e = first_left xs ys e
first_left (Err a ∷ xs) ys e = e

pub first_right : (xs ys : List Verdict) → first_of (xs ++ ys) ≡ Ok tt → first_of ys ≡ Ok tt
first_right xs ys e = sym (first_on xs ys (first_left xs ys e)) ∙ e

alone : (v : Verdict) → first_of (v ∷ []) ≡ v
unfolding first_of
alone (Ok u) = refl
alone (Err a) = refl

-- one check more
pub first_last : (xs : List Verdict) (v w : Verdict) → first_of xs ≡ Ok tt → v ≡ w → first_of (xs ++ (v ∷ [])) ≡ w
first_last xs v w e h = first_on xs (v ∷ []) e ∙ alone v ∙ h

-- where all pass, the check at each place does
pub first_at : (vs : List Verdict) → first_of vs ≡ Ok tt → (k : ℕ) → get_or vs k (Ok tt) ≡ Ok tt
unfolding first_of
first_at [] e k = refl
first_at (Ok u ∷ vs) e zero = refl
first_at (Ok u ∷ vs) e (suc k) = first_at vs e k
first_at (Err a ∷ vs) e k = absurd (never a e)

-- ---- a check for each place

module _ (f : ℕ → Verdict) where
  pub each_more : (k : ℕ) → first_of (up_to f k) ≡ Ok tt → f k ≡ Ok tt → first_of (up_to f (k + 1)) ≡ Ok tt
  unfolding up_to first_of
  each_more k e h = rw add-one (first_last (up_to f k) (f k) (Ok tt) e h)

  pub each_all : (n : ℕ) → ((k : ℕ) → k < n → f k ≡ Ok tt) → first_of (up_to f n) ≡ Ok tt
  unfolding up_to first_of
  each_all zero h = refl
  each_all (suc n) h = first_last (up_to f n) (f n) (Ok tt) (each_all n (λ k l. h k (omega arith))) (h n (omega arith))

  pub each_stop : (n k : ℕ) (a : Answer) → k < n → first_of (up_to f k) ≡ Ok tt → f k ≡ Err a → first_of (up_to f n) ≡ Err a
  unfolding up_to first_of
  each_stop zero k a l e h = absurd (omega arith)
  each_stop (suc n) k a l e h =
      ⊎_elim
      (λ i. first_last (up_to f n) (f n) (Err a) (ap (λ (m : ℕ). first_of (up_to f m)) (sym i) ∙ e) (ap f (sym i) ∙ h))
      (λ i. first_stop (up_to f n) (f n ∷ []) a (each_stop n k a i e h))
      (eq-or-lt_of_le {n = k} {m = n} (omega arith))

  pub each_at : (n k : ℕ) → k < n → first_of (up_to f n) ≡ Ok tt → f k ≡ Ok tt
  unfolding up_to first_of
  each_at zero k l e = absurd (omega arith)
  each_at (suc n) k l e =
      ⊎_elim
      (λ i. ap f i ∙ sym (alone (f n)) ∙ first_right (up_to f n) (f n ∷ []) e)
      (λ i. each_at n k i (first_left (up_to f n) (f n ∷ []) e))
      (eq-or-lt_of_le {n = k} {m = n} (omega arith))
