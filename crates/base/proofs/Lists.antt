-- Laws of lists: what `up_to` holds, what a test on all or on some tells, parts of a list built by `flat_map`, one list laid over another.
use Prim.Native.Nat.{ℕ, zero, suc, ◌+◌, ◌*◌, ◌-◌, ◌≤◌, ◌<◌, min}
use mathlib.Core.Path.{◌≡◌, refl, sym, ap, ◌∙◌}
use mathlib.Core.Bool.{Bool, true, false, ◌&&◌, ◌||◌}
use mathlib.Core.List.{List, [], ◌∷◌, ◌++◌, append_assoc, append-nil, flat_map}
use mathlib.Core.Logic.{⊎_elim}
use native.Mathlib.Nat.{eq-or-lt_of_le, mul-zero, mul-suc}
use native.Mathlib.Numerals.{add-one}
use native.Mathlib.Omega.{arith}
use lib.ListN.{length, get_or, take, drop, set, length-append, get_or-append, drop_of_length-le}
use lib.Seq.{take-append-le, drop-append-add, take_all, take-length, take-suc, drop-cons, set_at, length-take-le, get_or_at, take_at, drop_at}
use Rattle.base.proofs.Search.{le_or_lt}
use Rattle.base.specs.Lists.{up_to, every, any, over}

-- ---- tests

pub and_left : (b c : Bool) → b && c ≡ true → b ≡ true
and_left true c e = refl
and_left false c e = e

pub and_right : (b c : Bool) → b && c ≡ true → c ≡ true
and_right true c e = e
and_right false c e = let z : ◌≡◌ {A = ℕ} 0 1 = cc in absurd (omega arith)

pub or_left : (b c : Bool) → b || c ≡ false → b ≡ false
or_left true c e = e
or_left false c e = refl

pub or_right : (b c : Bool) → b || c ≡ false → c ≡ false
or_right true c e = let z : ◌≡◌ {A = ℕ} 0 1 = cc in absurd (omega arith)
or_right false c e = e

pub and_false : (b : Bool) → b && false ≡ false
and_false true = refl
and_false false = refl

or_true : (b : Bool) → b || true ≡ true
or_true true = refl
or_true false = refl

or_assoc : (a b c : Bool) → a || (b || c) ≡ (a || b) || c
or_assoc true b c = refl
or_assoc false b c = refl

module _ {A : Type 0} where
  -- ---- up_to

  pub up_length : (f : ℕ → A) (n : ℕ) → length (up_to f n) ≡ n
  unfolding up_to
  up_length f zero = refl
  up_length f (suc n) = simp length-append (omega (arith, up_length f n))

  pub up_at : (f : ℕ → A) (n k : ℕ) (d : A) → k < n → get_or (up_to f n) k d ≡ f k
  unfolding up_to
  up_at f zero k d h = absurd (omega arith)
  up_at f (suc n) k d h =
      ⊎_elim
      (λ e. let l : length (up_to f n) ≡ k = up_length f n ∙ sym e in get_or_at (up_to f n) (f n) [] d k l ∙ ap f (sym e))
      (λ l. get_or-append (up_to f n) (f n ∷ []) d k (omega (arith, up_length f n)) ∙ up_at f n k d l)
      (eq-or-lt_of_le {n = k} {m = n} (omega arith))

  pub up_take : (f : ℕ → A) (n k : ℕ) → k ≤ n → take k (up_to f n) ≡ up_to f k
  unfolding up_to
  up_take f zero k h = let e : k ≡ 0 = omega arith in rw e
  up_take f (suc n) k h =
      ⊎_elim
      (λ e. ap (λ (m : ℕ). take m (up_to f (suc n))) e ∙ take_all (suc n) (up_to f (suc n)) (omega (arith, up_length f (suc n))) ∙ ap (up_to f) (sym e))
      (λ l. take-append-le k (up_to f n) (f n ∷ []) (omega (arith, up_length f n)) ∙ up_take f n k (omega arith))
      (eq-or-lt_of_le h)

  pub up_same : (f g : ℕ → A) (n : ℕ) → ((k : ℕ) → k < n → f k ≡ g k) → up_to f n ≡ up_to g n
  unfolding up_to
  up_same f g zero h = refl
  up_same f g (suc n) h = rw (up_same f g n (λ k l. h k (omega arith)), h n (omega arith))

  -- a list is the values at its places
  pub up_list : (l : List A) (d : A) (n : ℕ) → n ≤ length l → up_to (λ k. get_or l k d) n ≡ take n l
  unfolding up_to
  up_list l d zero h = refl
  up_list l d (suc n) h = rw (up_list l d n (omega arith)) (sym (take-suc l n d h))

  -- ---- tests on all and on some

  pub every_at : (p : A → Bool) (l : List A) (i : ℕ) (d : A) → every p l ≡ true → i < length l → p (get_or l i d) ≡ true
  unfolding every
  every_at p [] i d e h = absurd (omega arith)
  every_at p (x ∷ xs) zero d e h = and_left (p x) (every p xs) e
  every_at p (x ∷ xs) (suc i) d e h = every_at p xs i d (and_right (p x) (every p xs) e) (omega arith)

  pub every_all : (p : A → Bool) (l : List A) (d : A) → ((i : ℕ) → i < length l → p (get_or l i d) ≡ true) → every p l ≡ true
  unfolding every
  every_all p [] d h = refl
  every_all p (x ∷ xs) d h = rw (h 0 (omega arith), every_all p xs d (λ i l. h (suc i) (omega arith)))

  pub every_not : (p : A → Bool) (l : List A) (i : ℕ) (d : A) → i < length l → p (get_or l i d) ≡ false → every p l ≡ false
  unfolding every
  every_not p [] i d h e = absurd (omega arith)
  every_not p (x ∷ xs) zero d h e = rw e
  every_not p (x ∷ xs) (suc i) d h e = rw (every_not p xs i d (omega arith) e) (and_false (p x))

  pub any_more : (p : A → Bool) (xs ys : List A) → any p (xs ++ ys) ≡ any p xs || any p ys
  unfolding any
  any_more p [] ys = refl
  any_more p (x ∷ xs) ys = rw (any_more p xs ys) (or_assoc (p x) (any p xs) (any p ys))

  pub any_at : (p : A → Bool) (l : List A) (i : ℕ) (d : A) → i < length l → p (get_or l i d) ≡ true → any p l ≡ true
  unfolding any
  any_at p [] i d h e = absurd (omega arith)
  any_at p (x ∷ xs) zero d h e = rw e
  any_at p (x ∷ xs) (suc i) d h e = rw (any_at p xs i d (omega arith) e) (or_true (p x))

  pub any_not : (p : A → Bool) (l : List A) (i : ℕ) (d : A) → any p l ≡ false → i < length l → p (get_or l i d) ≡ false
  unfolding any
  any_not p [] i d e h = absurd (omega arith)
  any_not p (x ∷ xs) zero d e h = or_left (p x) (any p xs) e
  any_not p (x ∷ xs) (suc i) d e h = any_not p xs i d (or_right (p x) (any p xs) e) (omega arith)

  pub any_none : (p : A → Bool) (l : List A) (d : A) → ((i : ℕ) → i < length l → p (get_or l i d) ≡ false) → any p l ≡ false
  unfolding any
  any_none p [] d h = refl
  any_none p (x ∷ xs) d h = rw (h 0 (omega arith), any_none p xs d (λ i l. h (suc i) (omega arith)))

  -- ---- one list laid over another

  pub over_more : (d d₀ s : List A) (i : ℕ) (z : A) → i < length s → i < length d₀ → d ≡ take i s ++ drop i d₀
      → set d i (get_or s i z) ≡ take (i + 1) s ++ drop (i + 1) d₀
  over_more d d₀ s i z hs hd e =
      rw (
        add-one,
        e,
        drop-cons d₀ i z hd,
        set_at (take i s) (get_or d₀ i z) (drop (suc i) d₀) (get_or s i z) i (length-take-le i s (omega arith)),
        take-suc s i z hs,
      )
      (sym (append_assoc (take i s) (get_or s i z ∷ []) (drop (suc i) d₀)))

  pub over_end : (d d₀ s : List A) (i : ℕ) → i ≡ min (length s) (length d₀) → d ≡ take i s ++ drop i d₀ → d ≡ over s d₀
  unfolding over
  over_end d d₀ s i h e = ⊎_elim short long (le_or_lt (length s) (length d₀))
    where
      short : length s ≤ length d₀ → d ≡ take (length d₀) s ++ drop (length s) d₀
      short l = let j : i ≡ length s = omega arith in rw (take_all (length d₀) s l) (e ∙ rw (j, take-length s))

      long : length d₀ < length s → d ≡ take (length d₀) s ++ drop (length s) d₀
      long l =
          let j : i ≡ length d₀ = omega arith in
          rw (drop_of_length-le d₀ {i = length s} (omega arith)) (e ∙ rw (j, drop_of_length-le d₀ {i = length d₀} (omega arith)))

  -- with room enough
  pub over_front : (s d : List A) → length s ≤ length d → over s d ≡ s ++ drop (length s) d
  unfolding over
  over_front s d h = rw (take_all (length d) s h)

  pub over_same : (s d : List A) → length s ≡ length d → over s d ≡ s
  over_same s d h = over_front s d (omega arith) ∙ rw (drop_of_length-le d {i = length s} (omega arith)) (append-nil s)

  -- a piece of w elements put at the end of the front
  pub put_part : (front tail piece : List A) (at w : ℕ) → length front ≡ at
      → take at (front ++ tail) ++ (piece ++ drop (at + w - at) (drop at (front ++ tail))) ≡ front ++ piece ++ drop w tail
  put_part front tail piece at w h =
      let e : at + w - at ≡ w = omega arith in
      rw (take_at front tail at h, drop_at front tail at h, e) (sym (append_assoc front piece (drop w tail)))

-- ---- lists built by flat_map from pieces of one width

module _ {A B : Type 0} (f : A → List B) where
  pub flat_append : (xs ys : List A) → flat_map f (xs ++ ys) ≡ flat_map f xs ++ flat_map f ys
  unfolding flat_map
  flat_append [] ys = refl
  flat_append (x ∷ xs) ys = rw (flat_append xs ys) (sym (append_assoc (f x) (flat_map f xs) (flat_map f ys)))

  pub flat_one : (xs : List A) (y : A) → flat_map f (xs ++ (y ∷ [])) ≡ flat_map f xs ++ f y
  unfolding flat_map
  flat_one xs y = flat_append xs (y ∷ []) ∙ ap (λ (l : List B). flat_map f xs ++ l) (append-nil (f y))

  module _ (w : ℕ) (wide : (x : A) → length (f x) ≡ w) where
    pub flat_length : (xs : List A) → length (flat_map f xs) ≡ w * length xs
    unfolding flat_map
    flat_length [] = sym (mul-zero w)
    flat_length (x ∷ xs) = simp length-append (omega (arith, wide x, flat_length xs, mul-suc w (length xs)))

    -- the piece at place k
    pub flat_part : (xs : List A) (rest : List B) (k : ℕ) (d : A) → k < length xs → take w (drop (w * k) (flat_map f xs ++ rest)) ≡ f (get_or xs k d)
    unfolding flat_map
    flat_part [] rest k d h = absurd (omega arith)
    flat_part (x ∷ xs) rest zero d h = rw (mul-zero w, append_assoc (f x) (flat_map f xs) rest) (take_at (f x) (flat_map f xs ++ rest) w (wide x))
    flat_part (x ∷ xs) rest (suc k) d h =
        let e : w * suc k ≡ length (f x) + w * k = omega (arith, wide x, mul-suc w k) in
        rw (e, append_assoc (f x) (flat_map f xs) rest, drop-append-add (f x) (flat_map f xs ++ rest) (w * k)) (flat_part xs rest k d (omega arith))
