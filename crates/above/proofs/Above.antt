-- The terms gathered from a roll are those of the tasks above the rank.
use Rattle.std.proofs.Common.{◌≡◌, ℕ, ◌+◌, ◌-◌, ◌<◌, ◌≤◌, Bool, true, false, not, cond, List, [], ◌∷◌, ◌++◌, length, map, get_or, take, drop, set, refl, append_assoc, zero-add, arith, length-set}
use mir.Val.{bool_byte}
use Rattle.std.specs.Prelude.{All, ltb}
use Rattle.std.specs.List.{filter}
use Rattle.std.proofs.lemmas.Grind.{common_steps}
use Rattle.std.proofs.lemmas.List.{drop_more, drop_all, map_more, set-append_right, length-map, length-take}
use Rattle.std.proofs.lemmas.List.Sums.{sum_by-le, sum_by-cons}
use Rattle.std.proofs.lemmas.List.Filters.{length-filter_both}
use Rattle.std.proofs.lemmas.List.Elements.{All-map, All-filter}
use Rattle.base.specs.Sums.{sum_of}
use Rattle.block.specs.declared.Task.{Task}
use Rattle.term.specs.declared.Jobs.{Jobs}
use Rattle.term.specs.declared.Old.{Old}
use Rattle.term.specs.Terms.{Good, Ready}
use Rattle.window.specs.Order.{rank}
use Rattle.above.specs.declared.Rolled.{Rolled}
use Rattle.above.specs.Roll.{rolled, Sound, new_of, is_above, all_above, count_above, terms_from, gathered, terms_above, left_of, left_above}

-- what stands past the end of a roll
abbrev pub nobody : Rolled
nobody = record { old = record { jobs = record { recip = 0; period = 0; execution = 0 }; cut = false }; offset = 0; rank = 0 }

-- one element more of a list is mapped over the front of another
pub over_more : {A B : Type 0} (f : A → B) (xs : List A) (l : List B) (j : ℕ) (d : A) → j < length xs → length xs ≤ length l
    → set (map f (take j xs) ++ drop j l) j (f (get_or xs j d)) ≡ map f (take (j + 1) xs) ++ drop (j + 1) l
over_more f xs l j d h r =
    let e : length (map f (take j xs)) ≡ j = simp (length-map, length-take) (omega arith) in
    rw (set-append_right (map f (take j xs)) (drop j l) j j (f (get_or xs j d)) e (omega arith), drop_more l j (f (get_or xs j d)) (omega arith), map_more f xs j d h, append_assoc)
    (let z : j - j ≡ 0 = omega arith in rw z refl)

-- a test as a number
pub byte_is : (b : Bool) → bool_byte b ≡ cond b 1 0
byte_is true = refl
byte_is false = refl

pub one_le : (b : Bool) → cond b 1 0 ≤ 1
one_le true = omega arith
one_le false = omega arith

-- those of a list that are above, from place i on
pub count_more : (p : ℕ) (rs : List Rolled) (i : ℕ) (d : Rolled) → i < length rs → count_above p (drop i rs) ≡ cond (is_above p (get_or rs i d)) 1 0 + count_above p (drop (i + 1) rs)
count_more p rs i d h = rw (drop_more rs i d h) (more (is_above p (get_or rs i d)))
  where
    more : (b : Bool) → length (cond b (get_or rs i d ∷ filter (is_above p) (drop (i + 1) rs)) (filter (is_above p) (drop (i + 1) rs))) ≡ cond b 1 0 + count_above p (drop (i + 1) rs)
    more true = omega arith
    more false = omega arith

pub count_none : (p : ℕ) (rs : List Rolled) (i : ℕ) → length rs ≤ i → count_above p (drop i rs) ≡ 0
count_none p rs i h = rw (drop_all i rs h) refl

module _ {T : Type 0} (t : Rolled → T) (p : ℕ) where
  -- the terms from place i on, one after the other
  pub terms_more : (rs : List Rolled) (i c : ℕ) (l : List T) (d : Rolled) → i < length rs
      → terms_from t p (drop i rs) c l ≡ terms_from t p (drop (i + 1) rs) (c + cond (is_above p (get_or rs i d)) 1 0) (set l c (t (get_or rs i d)))
  unfolding terms_from
  terms_more rs i c l d h = rw (drop_more rs i d h) refl

  pub terms_none : (rs : List Rolled) (i c : ℕ) (l : List T) → length rs ≤ i → terms_from t p (drop i rs) c l ≡ l
  unfolding terms_from
  terms_none rs i c l h = rw (drop_all i rs h) refl

  above_more : (b : Bool) (r : Rolled) (rs ys : List Rolled) (c : ℕ) (l zs : List T) → c < length l
      → take (c + cond b 1 0 + length ys) zs ≡ take (c + cond b 1 0) (set l c (t r)) ++ map t ys
      → take (c + length (cond b (r ∷ ys) ys)) zs ≡ take c l ++ map t (cond b (r ∷ ys) ys)
  above_more true r rs ys c l zs h e = grind (arith, common_steps)
  above_more false r rs ys c l zs h e = grind (arith, common_steps)

  -- in front of them stand those of the tasks above
  terms_front : (rs : List Rolled) (c : ℕ) (l : List T) → c + length rs ≤ length l
      → take (c + count_above p rs) (terms_from t p rs c l) ≡ take c l ++ map t (filter (is_above p) rs)
  unfolding terms_from
  terms_front [] c l h = grind (arith, common_steps)
  terms_front (r ∷ rs) c l h =
      above_more (is_above p r) r rs (filter (is_above p) rs) c l _ (omega arith)
      (terms_front rs (c + cond (is_above p r) 1 0) (set l c (t r)) (simp length-set (omega (arith, one_le (is_above p r)))))

  -- so the first of what gathering leaves are their terms
  pub gathered_front : (rs : List Rolled) (l : List T) (n : ℕ) → n ≡ count_above p rs → length rs ≤ length l → take n (gathered t p rs l) ≡ terms_above t p rs
  gathered_front rs l n e h = let z = terms_front rs 0 l (omega arith) in rw (e, ← zero-add (count_above p rs)) z

cond_le : (b : Bool) (n m : ℕ) → n ≤ m → cond b n 0 ≤ m
cond_le true n m h = h
cond_le false n m h = omega arith

pub left_small : (p : ℕ) (rs : List Rolled) → Sound rs → left_above p rs ≤ 1966050
left_small p rs h = omega (arith, sum_by-le (left_of p) 65535 rs each, h.few)
  where
    each : All (λ r. left_of p r ≤ 65535) rs
    each k d l = cond_le _ (get_or rs k d).old.jobs.execution 65535 (omega (arith, (h.good k d l).time))

-- ---- what the terms of those above are

-- a sum over them is a sum over the tasks
pub sum_terms : {T : Type 0} (f : T → ℕ) (t : Rolled → T) (p : ℕ) (xs : List Task) → sum_of f (terms_above t p (map rolled xs)) ≡ sum_of (λ x. cond (ltb (rank x) p) (f (t (rolled x))) 0) xs
unfolding sum_of
sum_terms f t p [] = refl
sum_terms f t p (x ∷ xs) = add (ltb (rank x) p) (all_above p (map rolled xs)) _ (sum_terms f t p xs)
  where
    add : (b : Bool) (rs : List Rolled) (n : ℕ) → sum_of f (map t rs) ≡ n → sum_of f (map t (cond b (rolled x ∷ rs) rs)) ≡ cond b (f (t (rolled x))) 0 + n
    add true rs n e = omega arith
    add false rs n e = omega arith

pub sum_left : (p : ℕ) (xs : List Task) → left_above p (map rolled xs) ≡ sum_of (λ x. left_of p (rolled x)) xs
unfolding sum_of
sum_left p [] = refl
sum_left p (x ∷ xs) = omega (arith, sum_left p xs, sum_by-cons (left_of p) (rolled x) (map rolled xs))

-- they can be divided by, and are few
module _ {T : Type 0} (t : Rolled → T) (p : ℕ) (rs : List Rolled) (sound : Sound rs) where
  terms_few : length (terms_above t p rs) ≤ 30
  terms_few = omega (arith, length-map (all_above p rs) t, length-filter_both (is_above p) (λ r. not (is_above p r)) (λ r. refl) rs, sound.few)

  terms_good : (jobs : T → Jobs) → ((r : Rolled) → jobs (t r) ≡ r.old.jobs) → All (λ e. Good (jobs e)) (terms_above t p rs)
  terms_good jobs same = All-map (λ e. Good (jobs e)) t (all_above p rs) (All-filter (is_above p) (λ r. Good (jobs (t r))) rs (λ k d l. rw (same (get_or rs k d)) (sound.good k d l)))

pub gathered_ready : (s t : List Rolled) (p : ℕ) → Sound s → Sound t → (f : Rolled → Old) → ((r : Rolled) → (f r).jobs ≡ r.old.jobs) → Ready (terms_above f p s) (terms_above new_of p t)
gathered_ready s t p h g f e =
    record {
      few_old = terms_few f p s h;
      few_new = terms_few new_of p t g;
      good_old = terms_good f p s h (λ x. x.jobs) e;
      good_new = terms_good new_of p t g (λ x. x.jobs) (λ r. refl);
    }
