-- Laws of flat demands: they rise with t, agree before both requests, and do not grow where the old tasks do not.
use Prim.Native.Nat.{ℕ, zero, suc, ◌+◌, ◌*◌, ◌%◌, ◌-◌, ◌/◌, ◌≤◌, ◌<◌, min, max}
use mathlib.Core.Path.{◌≡◌, refl}
use mathlib.Core.Bool.{Bool, true, false, cond}
use mathlib.Core.List.{List, [], ◌∷◌}
use mathlib.Core.Logic.{⊎_elim}
use lib.ListN.{length, get_or, take, drop}
use lib.Dec.{ltb}
use borrow.Author.Tests.{lt-ltb, le-ltb}
use native.Mathlib.Omega.{arith}
use native.Mathlib.Numerals.{add-one}
use lib.Seq.{drop-cons}
use Rattle.std.proofs.lemmas.List.{drop_all}
use native.Mathlib.Nat.{mod-lt, suc-mul, div-add-mod'}
use Rattle.std.specs.Prelude.{All, fold}
use Rattle.base.specs.Sums.{sum_of}
use Rattle.base.specs.Numbers.{jobs_in, cut_in}
use Rattle.base.proofs.Sums.{list_mono}
use Rattle.base.proofs.Numbers.{jobs_rise, cut_rises, jobs_whole, jobs_begun, cut_is}
use Rattle.base.proofs.Search.{le_or_lt}
use Rattle.base.proofs.Flat.{jobs_flat, cut_flat}
use Rattle.term.specs.declared.Old.{Old}
use Rattle.term.specs.declared.New.{New}
use Rattle.term.specs.Terms.{Good, Ready, before, after, old_sum, new_sum, flat_demand, grows_by, next_of, next_phase, prev_of, prev_phase}

-- each half of two lists that are ready is so by itself
pub ready_old : (o : List Old) (w : List New) → Ready o w → Ready o []
ready_old o w r = record { few_old = r.few_old; few_new = omega arith; good_old = r.good_old; good_new = λ k d h. absurd (omega arith) }

pub ready_new : (o : List Old) (w : List New) → Ready o w → Ready [] w
ready_new o w r = record { few_old = omega arith; few_new = r.few_new; good_old = λ k d h. absurd (omega arith); good_new = r.good_new }

module _ {A : Type 0} (P : A → Type 0) (x : A) (xs : List A) (all : All P (x ∷ xs)) where
  all_head : P x
  all_head = all 0 x (omega arith)

  all_tail : All P xs
  all_tail k d h = all (suc k) d (omega arith)

cond_le : (b : Bool) (m n k l : ℕ) → m ≤ k → n ≤ l → cond b m n ≤ cond b k l
cond_le true m n k l h g = h
cond_le false m n k l h g = g

pub before_rises : (e : Old) (a b : ℕ) → a ≤ b → before a e ≤ before b e
unfolding before
before_rises e a b h = cond_le e.cut _ _ _ _ (cut_rises e.jobs.period e.jobs.execution a b h) (jobs_rise e.jobs.period e.jobs.execution a b h)

pub old_rises : (o : List Old) (a b : ℕ) → a ≤ b → old_sum o a ≤ old_sum o b
old_rises o a b h = list_mono (before a) (before b) (λ e. before_rises e a b h) o

pub new_rises : (w : List New) (a b : ℕ) → a ≤ b → new_sum w a ≤ new_sum w b
unfolding after
new_rises w a b h = list_mono (after a) (after b) (λ e. jobs_rise e.jobs.period e.jobs.execution _ _ (omega arith)) w

-- up to the end of its period a task that has grown stays
pub before_flat : (e : Old) (x y : ℕ) → 1 ≤ e.jobs.period → grows_by e ≤ x % e.jobs.period → y ≤ x - x % e.jobs.period + e.jobs.period → before y e ≤ before x e
unfolding before grows_by
before_flat e x y s h l = by_cut e.cut h
  where
    by_cut : (b : Bool) → cond b e.jobs.execution 1 ≤ x % e.jobs.period
        → cond b (cut_in e.jobs.period e.jobs.execution y) (jobs_in e.jobs.period e.jobs.execution y)
        ≤ cond b (cut_in e.jobs.period e.jobs.execution x) (jobs_in e.jobs.period e.jobs.execution x)
    by_cut true g = cut_flat e.jobs.period e.jobs.execution x y s l g
    by_cut false g = jobs_flat e.jobs.period e.jobs.execution x y s l g

-- between x and the next phase at which it grows, a task does not grow
pub record Still (f : ℕ → ℕ) (x next : ℕ) : Type 0 where
  pub later : x < next
  pub still : (y : ℕ) → x ≤ y → y < next → f y ≤ f x

next_still : (e : Old) (x : ℕ) → 1 ≤ e.jobs.period → Still (λ m. before m e) x (next_of x e)
unfolding next_of
next_still e x s = ⊎_elim stays grows (le_or_lt (grows_by e) (x % e.jobs.period))
  where
    grows : x % e.jobs.period < grows_by e → Still (λ m. before m e) x (cond (ltb (x % e.jobs.period) (grows_by e)) (x + 1) (x - x % e.jobs.period + e.jobs.period + 1))
    grows h = rw (lt-ltb (x % e.jobs.period) (grows_by e) h) (record { later = omega arith; still = λ y a b. before_rises e y x (omega arith) })

    stays : grows_by e ≤ x % e.jobs.period → Still (λ m. before m e) x (cond (ltb (x % e.jobs.period) (grows_by e)) (x + 1) (x - x % e.jobs.period + e.jobs.period + 1))
    stays h =
        rw (le-ltb (x % e.jobs.period) (grows_by e) h)
        (record { later = omega (arith, mod-lt x s); still = λ y a b. before_flat e x y s h (omega arith) })

pub phase_still : (o : List Old) (w : List New) (x limit : ℕ) → Ready o w → x ≤ limit → Still (old_sum o) x (next_phase o x limit)
unfolding next_phase sum_of
phase_still o w x limit r h = go o r.good_old
  where
    go : (o : List Old) → All (λ e. Good e.jobs) o → Still (old_sum o) x (next_phase o x limit)
    go [] g = record { later = omega arith; still = λ y a b. omega arith }
    go (e ∷ o) g =
        let m = go o (all_tail (λ e. Good e.jobs) e o g) in
        let k = next_still e x (all_head (λ e. Good e.jobs) e o g).some in
        record { later = omega (arith, m.later, k.later); still = λ y a b. omega (arith, m.still y a (omega arith), k.still y a (omega arith)) }

pub phase_within : (o : List Old) (x limit : ℕ) → next_phase o x limit ≤ limit + 1
unfolding next_phase
phase_within [] x limit = omega arith
phase_within (e ∷ o) x limit = omega (arith, phase_within o x limit)

-- the same as the least so far goes from task to task
pub next_from : (o : List Old) (n x limit : ℕ) → n ≤ limit + 1 → fold (λ a e. min a (next_of x e)) n o ≡ min n (next_phase o x limit)
unfolding next_phase
next_from [] n x limit h = omega arith
next_from (e ∷ o) n x limit h = omega (arith, next_from o (min n (next_of x e)) x limit (omega arith))

pub next_is : (o : List Old) (x limit : ℕ) → next_phase o x limit ≡ fold (λ a e. min a (next_of x e)) (limit + 1) o
next_is o x limit = omega (arith, next_from o (limit + 1) x limit (omega arith), phase_within o x limit)

-- from where it stopped in period k to the end of it a task stays
before_level : (e : Old) (k y z : ℕ) → grows_by e < e.jobs.period → k * e.jobs.period + grows_by e ≤ z → y ≤ k * e.jobs.period + e.jobs.period → before y e ≤ before z e
unfolding before grows_by
before_level e k y z s h l = by_cut e.cut s h
  where
    T : ℕ
    T = e.jobs.period

    C : ℕ
    C = e.jobs.execution

    next : k * T + T ≡ suc k * T + 0
    next = omega (arith, suc-mul k T)

    by_cut : (b : Bool) → cond b C 1 < T → k * T + cond b C 1 ≤ z → cond b (cut_in T C y) (jobs_in T C y) ≤ cond b (cut_in T C z) (jobs_in T C z)
    by_cut true r g =
        omega (
          arith,
          cut_rises T C y (k * T + T) l,
          cut_is T C (k * T + T) (suc k) 0 (omega arith) next,
          suc-mul k C,
          cut_is T C (k * T + C) k C r (omega arith),
          cut_rises T C (k * T + C) z g,
        )
    by_cut false r g =
        omega (
          arith,
          jobs_rise T C y (k * T + T) l,
          jobs_whole T C (k * T + T) (suc k) (omega arith) next,
          suc-mul k C,
          jobs_begun T C (k * T + 1) k 0 (omega arith) (omega arith),
          jobs_rise T C (k * T + 1) z g,
        )

-- from the last phase at which it grows to m + 1, a task stays
pub record Level (f : ℕ → ℕ) (m prev : ℕ) : Type 0 where
  pub within : prev ≤ m + 1
  pub level : (z y : ℕ) → prev ≤ z → z ≤ y → y ≤ m + 1 → f y ≤ f z

prev_level : (e : Old) (m : ℕ) → 1 ≤ e.jobs.period → Level (λ t. before t e) m (prev_of m e)
unfolding prev_of
prev_level e m s = ⊎_elim stays grows (le_or_lt (grows_by e) (m % e.jobs.period))
  where
    grows : m % e.jobs.period < grows_by e → Level (λ t. before t e) m (cond (ltb (m % e.jobs.period) (grows_by e)) (m + 1) (m - m % e.jobs.period + grows_by e))
    grows h = rw (lt-ltb (m % e.jobs.period) (grows_by e) h) (record { within = omega arith; level = λ z y a b d. before_rises e y z (omega arith) })

    stays : grows_by e ≤ m % e.jobs.period → Level (λ t. before t e) m (cond (ltb (m % e.jobs.period) (grows_by e)) (m + 1) (m - m % e.jobs.period + grows_by e))
    stays h =
        let d = div-add-mod' m e.jobs.period in
        let r = mod-lt m s in
        rw (le-ltb (m % e.jobs.period) (grows_by e) h)
        (record { within = omega arith; level = λ z y a b d. before_level e (m / e.jobs.period) y z (omega arith) (omega arith) (omega arith) })

phases_level : (o : List Old) (m : ℕ) → All (λ e. Good e.jobs) o → Level (old_sum o) m (prev_phase o m)
unfolding prev_phase sum_of
phases_level [] m g = record { within = omega arith; level = λ z y a b d. omega arith }
phases_level (e ∷ o) m g =
    let a = phases_level o m (all_tail (λ e. Good e.jobs) e o g) in
    let b = prev_level e m (all_head (λ e. Good e.jobs) e o g).some in
    record { within = omega (arith, a.within, b.within); level = λ z y h g d. omega (arith, a.level z y (omega arith) g d, b.level z y (omega arith) g d) }

pub phase_level : (o : List Old) (w : List New) (m : ℕ) → Ready o w → Level (old_sum o) m (prev_phase o m)
phase_level o w m r = phases_level o m r.good_old

pub phase_by : (o : List Old) (w : List New) (m : ℕ) → Ready o w → prev_phase o m ≤ m + 1
phase_by o w m r = (phase_level o w m r).within

pub phase_some : (o : List Old) (m : ℕ) → 1 ≤ prev_phase o m
unfolding prev_phase
phase_some [] m = omega arith
phase_some (e ∷ o) m = omega (arith, phase_some o m)

-- once it is m + 1 it stays so
pub phase_stays : (o : List Old) (w : List New) (m j : ℕ) → Ready o w → m < prev_phase (take j o) m → prev_phase (take j o) m ≡ prev_phase o m
unfolding prev_phase
phase_stays o w m j r g = omega (arith, up o j, phase_by o w m r)
  where
    up : (o : List Old) (j : ℕ) → prev_phase (take j o) m ≤ prev_phase o m
    up o zero = phase_some o m
    up [] (suc j) = omega arith
    up (e ∷ o) (suc j) = omega (arith, up o j)

pub prev_more : (o : List Old) (i m p : ℕ) (d : Old) → p ≡ prev_of m (get_or o i d) → i < length o → prev_phase (drop i o) m ≡ max p (prev_phase (drop (i + 1) o) m)
unfolding prev_phase
prev_more o i m p d e h = rw (e, add-one, drop-cons o i d) refl

pub prev_none : (o : List Old) (i m : ℕ) → length o ≤ i → prev_phase (drop i o) m ≡ 1
unfolding prev_phase
prev_none o i m h = rw (drop_all i o h) refl

module _ (C : ℕ) (o : List Old) (w : List New) where
  pub flat_rises : (x s t : ℕ) → s ≤ t → flat_demand C o w x s ≤ flat_demand C o w x t
  unfolding flat_demand
  flat_rises x s t h = omega (arith, old_rises o (min s x) (min t x) (omega arith), new_rises w (s - x) (t - x) (omega arith))

  pub flat_least : (x t : ℕ) → C ≤ flat_demand C o w x t
  unfolding flat_demand
  flat_least x t = omega arith

  pub flat_same : (x y t : ℕ) → t ≤ x → t ≤ y → flat_demand C o w x t ≡ flat_demand C o w y t
  unfolding flat_demand
  flat_same x y t h l =
      let a : min t x ≡ min t y = omega arith in
      let b : t - x ≡ t - y = omega arith in
      rw (a, b)

  flat_after : (x t u : ℕ) → t ≡ x + u → flat_demand C o w x t ≡ C + old_sum o x + new_sum w u
  unfolding flat_demand
  flat_after x t u e =
      let a : min t x ≡ x = omega arith in
      let b : t - x ≡ u = omega arith in
      rw (a, b)

  -- equally far behind the request, two demands differ by what they are at the request
  pub flat_shift : (x y u : ℕ) → flat_demand C o w y (y + u) + flat_demand C o w x x ≡ flat_demand C o w x (x + u) + flat_demand C o w y y
  flat_shift x y u =
      let a = flat_after x (x + u) u (omega arith) in
      let b = flat_after y (y + u) u (omega arith) in
      omega (arith, a, b, flat_after x x 0 (omega arith), flat_after y y 0 (omega arith))

  -- where the old part does not grow from x to y, the demand at y is nowhere above that at x
  pub flat_calm : (x y t : ℕ) → x ≤ y → old_sum o y ≤ old_sum o x → flat_demand C o w y t ≤ flat_demand C o w x t
  unfolding flat_demand
  flat_calm x y t h e = omega (arith, ⊎_elim early late (le_or_lt t x), new_rises w (t - y) (t - x) (omega arith))
    where
      early : t ≤ x → old_sum o (min t y) ≤ old_sum o (min t x)
      early l = old_rises o (min t y) (min t x) (omega arith)

      late : x < t → old_sum o (min t y) ≤ old_sum o (min t x)
      late l = omega (arith, old_rises o (min t y) y (omega arith), old_rises o x (min t x) (omega arith))

-- with no new task, before the request: the old tasks at t
pub flat_steady_lem : (C : ℕ) (o : List Old) (x t : ℕ) → t ≤ x → flat_demand C o [] x t ≡ C + old_sum o t
unfolding flat_demand sum_of
flat_steady_lem C o x t h = let a : min t x ≡ t = omega arith in rw a (omega arith)

-- with no old task, from a request at 0: the new tasks at t
pub flat_request_lem : (C : ℕ) (w : List New) (t : ℕ) → flat_demand C [] w 0 t ≡ C + new_sum w t
unfolding flat_demand sum_of
flat_request_lem C w t = let a : t - 0 ≡ t = omega arith in rw a (omega arith)
