-- Laws of sums: order, algebra, one term, and sums over lists.
use mathlib.Core.Path.{◌≡◌, refl, sym, ap, ◌∙◌}
use mathlib.Core.Logic.{◌⊎◌, inl, inr}
use Prim.Native.Nat.{ℕ, zero, suc, ◌+◌, ◌-◌, ◌*◌, ◌≤◌, ◌<◌, min}
use native.Mathlib.Nat.{add-zero, add-suc, le_refl, mul-zero, eq-zero-or-pos, not-suc-le-zero, min-eq_left, min-eq_right}
use native.Mathlib.Decide.{dec_lt, dec_le}
use native.Mathlib.Numerals.{add-one}
use native.Mathlib.Omega.{arith}
use mathlib.Core.List.{List, [], ◌∷◌, ◌++◌}
use lib.ListN.{length, get_or, take}
use lib.Seq.{take-suc}
use Rattle.base.specs.Sums.{sum, sum_of}

-- ---- order

pub sum_le : (n : ℕ) (f g : ℕ → ℕ) → ((k : ℕ) → k < n → f k ≤ g k) → sum n f ≤ sum n g
unfolding sum
sum_le zero f g h = omega arith
sum_le (suc n) f g h = omega (arith, sum_le n f g (λ k l. h k (omega arith)), h n (le_refl (suc n)))

pub sum_eq : (n : ℕ) (f g : ℕ → ℕ) → ((k : ℕ) → k < n → f k ≡ g k) → sum n f ≡ sum n g
unfolding sum
sum_eq zero f g h = refl
sum_eq (suc n) f g h = omega (arith, sum_eq n f g (λ k l. h k (omega arith)), h n (le_refl (suc n)))

-- strict: every term at most, one term below
pub sum_lt : (n : ℕ) (f g : ℕ → ℕ) → ((k : ℕ) → k < n → f k ≤ g k) → (j : ℕ) → j < n → f j < g j → sum n f < sum n g
unfolding sum
sum_lt zero f g h j l d = absurd (not-suc-le-zero l)
sum_lt (suc n) f g h j l d =
    elim (dec_lt j n) [
      | yes p ↦ omega (arith, sum_lt n f g (λ k m. h k (omega arith)) j p d, h n (le_refl (suc n)))
      | no p ↦
          let e : j ≡ n = omega arith in
          omega (arith, sum_le n f g (λ k m. h k (omega arith)), rw e at d)
    ]

pub sum_zero : (n : ℕ) (f : ℕ → ℕ) → ((k : ℕ) → k < n → f k ≡ 0) → sum n f ≡ 0
unfolding sum
sum_zero zero f h = refl
sum_zero (suc n) f h = omega (arith, sum_zero n f (λ k l. h k (omega arith)), h n (le_refl (suc n)))

-- a term is at most the sum
pub sum_ge : (n : ℕ) (f : ℕ → ℕ) (j : ℕ) → j < n → f j ≤ sum n f
unfolding sum
sum_ge zero f j l = absurd (not-suc-le-zero l)
sum_ge (suc n) f j l =
    elim (dec_lt j n) [
      | yes p ↦ omega (arith, sum_ge n f j p)
      | no p ↦ let e : n ≡ j = omega arith in omega (arith, ap f e)
    ]

-- a positive sum has a positive term
pub sum_pos : (n : ℕ) (f : ℕ → ℕ) → 0 < sum n f → (k : ℕ) × (k < n) × (0 < f k)
unfolding sum
sum_pos zero f h = absurd (not-suc-le-zero h)
sum_pos (suc n) f h = go (eq-zero-or-pos (f n)) (λ p. sum_pos n f p)
  where
    go : (f n ≡ 0) ⊎ (0 < f n) → (0 < sum n f → (k : ℕ) × (k < n) × (0 < f k)) → (k : ℕ) × (k < suc n) × (0 < f k)
    go (inl e) rest = let r = rest (omega arith) in (r.0, omega arith, r.2)
    go (inr p) rest = (n, le_refl (suc n), p)

-- ---- algebra

pub sum_add : (n : ℕ) (f g : ℕ → ℕ) → sum n (λ k. f k + g k) ≡ sum n f + sum n g
unfolding sum
sum_add zero f g = refl
sum_add (suc n) f g = omega (arith, sum_add n f g)

pub sum_mul : (n c : ℕ) (f : ℕ → ℕ) → sum n (λ k. c * f k) ≡ c * sum n f
unfolding sum
sum_mul zero c f = sym (mul-zero c)
sum_mul (suc n) c f = omega (arith, sum_mul n c f)

pub sum_split : (a b : ℕ) (f : ℕ → ℕ) → sum (a + b) f ≡ sum a f + sum b (λ k. f (a + k))
unfolding sum
sum_split a zero f = rw (add-zero a) (omega arith)
sum_split a (suc b) f = rw add-suc (omega (arith, sum_split a b f))

-- the order of two sums
pub sum_swap : (n m : ℕ) (f : ℕ → ℕ → ℕ) → sum n (λ i. sum m (λ j. f i j)) ≡ sum m (λ j. sum n (λ i. f i j))
unfolding sum
sum_swap zero m f = sym (sum_zero m (λ j. 0) (λ k l. refl))
sum_swap (suc n) m f =
    omega (arith, sum_swap n m f, sum_add m (λ j. sum n (λ i. f i j)) (λ j. f n j))

-- a window adds no more than its length where each term is at most one
pub sum_ticks : (n : ℕ) (f : ℕ → ℕ) → ((k : ℕ) → k < n → f k ≤ 1) → sum n f ≤ n
unfolding sum
sum_ticks zero f h = omega arith
sum_ticks (suc n) f h = omega (arith, sum_ticks n f (λ k l. h k (omega arith)), h n (le_refl (suc n)))

pub sum_ones : (n : ℕ) (f : ℕ → ℕ) → ((k : ℕ) → k < n → f k ≡ 1) → sum n f ≡ n
unfolding sum
sum_ones zero f h = refl
sum_ones (suc n) f h = omega (arith, sum_ones n f (λ k l. h k (omega arith)), h n (le_refl (suc n)))

-- only the term at j counts
pub sum_only : (n : ℕ) (f : ℕ → ℕ) (j : ℕ) → j < n → ((k : ℕ) → k < n → ¬ (k ≡ j) → f k ≡ 0) → sum n f ≡ f j
unfolding sum
sum_only zero f j l h = absurd (not-suc-le-zero l)
sum_only (suc n) f j l h =
    elim (dec_lt j n) [
      | yes p ↦ omega (arith, sum_only n f j p (λ k m d. h k (omega arith) d), h n (le_refl (suc n)) (omega arith))
      | no p ↦
          let e : n ≡ j = omega arith in
          let z : sum n f ≡ 0 = sum_zero n f (λ k m. h k (omega arith) (omega arith)) in
          omega (arith, ap f e)
    ]

-- ---- over a list

module _ {A : Type 0} where
  pub list_append : (f : A → ℕ) (xs ys : List A) → sum_of f (xs ++ ys) ≡ sum_of f xs + sum_of f ys
  unfolding sum_of
  list_append f [] ys = omega arith
  list_append f (x ∷ xs) ys = omega (arith, list_append f xs ys)

  -- one element more
  pub list_more : (f : A → ℕ) (xs : List A) (j : ℕ) (d : A) → j < length xs → sum_of f (take (j + 1) xs) ≡ sum_of f (take j xs) + f (get_or xs j d)
  unfolding sum_of
  list_more f xs j d h = rw (add-one, take-suc xs j d h, list_append) (omega arith)

  pub list_mono : (f g : A → ℕ) → ((x : A) → f x ≤ g x) → (xs : List A) → sum_of f xs ≤ sum_of g xs
  unfolding sum_of
  list_mono f g h [] = omega arith
  list_mono f g h (x ∷ xs) = omega (arith, h x, list_mono f g h xs)

  pub list_none : (f : A → ℕ) → ((x : A) → f x ≡ 0) → (xs : List A) → sum_of f xs ≡ 0
  unfolding sum_of
  list_none f h [] = refl
  list_none f h (x ∷ xs) = omega (arith, h x, list_none f h xs)

-- ---- sums that stop early or start late, and sums over the places of a list

pub sum_cut : (t x : ℕ) (f : ℕ → ℕ) → ((u : ℕ) → x ≤ u → f u ≡ 0) → sum t f ≡ sum (min t x) f
sum_cut t x f h =
    elim (dec_le t x) [
      | yes l ↦ rw (min-eq_left l)
      | no l ↦
          let e : t ≡ x + (t - x) = omega arith in
          let z = sum_zero (t - x) (λ k. f (x + k)) (λ k m. h (x + k) (omega arith)) in
          rw (min-eq_right {n = x} {m = t} (omega arith)) (ap (λ (k : ℕ). sum k f) e ∙ sum_split x (t - x) f ∙ omega arith)
    ]

pub sum_late : (t y : ℕ) (f : ℕ → ℕ) → ((u : ℕ) → u < y → f u ≡ 0) → sum t f ≡ sum (t - y) (λ k. f (y + k))
sum_late t y f h =
    elim (dec_le t y) [
      | yes l ↦
          let e : t - y ≡ 0 = omega arith in
          rw e (sum_zero t f (λ u m. h u (omega arith)) ∙ unfold sum in refl)
      | no l ↦
          let e : t ≡ y + (t - y) = omega arith in
          let z = sum_zero y f (λ u m. h u m) in
          ap (λ (k : ℕ). sum k f) e ∙ sum_split y (t - y) f ∙ omega arith
    ]

sum_first : (n : ℕ) (f : ℕ → ℕ) → sum (suc n) f ≡ f 0 + sum n (λ k. f (suc k))
unfolding sum
sum_first zero f = omega arith
sum_first (suc n) f = omega (arith, sum_first n f)

pub list_places : {A : Type 0} (f : A → ℕ) (xs : List A) (d : A) → sum_of f xs ≡ sum (length xs) (λ k. f (get_or xs k d))
unfolding sum sum_of
list_places f [] d = refl
list_places f (x ∷ xs) d = omega (arith, list_places f xs d, sum_first (length xs) (λ k. f (get_or (x ∷ xs) k d)))
