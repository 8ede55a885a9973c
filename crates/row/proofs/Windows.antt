-- Laws of the windows that the code works out of the tasks above: where their searches may start, and how large they get.
use Prim.Native.Nat.{ℕ, zero, suc, ◌-◌, ◌≤◌, ◌<◌}
use mathlib.Core.Path.{◌≡◌, refl, sym}
use mathlib.Core.List.{List, []}
use lib.ListN.{length}
use Rattle.std.specs.Prelude.{Some, None, Ok, Err}
use Rattle.std.proofs.lemmas.List.{nil_from_length}
use native.Mathlib.Omega.{arith}
use borrow.Author.Tests.{lt-leb, lt-ltb, le-ltb}
use Rattle.base.specs.Sums.{sum_of}
use Rattle.base.specs.Search.{closes, window_of, Climbs}
use Rattle.base.proofs.Sums.{list_none}
use Rattle.base.proofs.Search.{climb_start, climb_at, where_none, window_found, window_same}
use Rattle.term.specs.declared.Old.{Old}
use Rattle.term.specs.declared.New.{New}
use Rattle.term.specs.Terms.{after, new_sum, flat_demand}
use Rattle.term.proofs.Terms.{flat_least}
use Rattle.window.specs.declared.Worst.{Worst}
use Rattle.window.specs.Worst.{take_of, next_of, sweep}
use Rattle.window.specs.Phases.{window_at}
use Rattle.window.proofs.Steady.{jobs_none}
use Rattle.window.proofs.Sweep.{IsWorst, IsLate, sweep_is}
use Rattle.row.specs.Row.{row, completed_row}
use Rattle.row.specs.Flat.{flat_steady, flat_request}

-- at the request itself no new task counts
none_yet : (e : New) → after 0 e ≡ 0
unfolding after
none_yet e = let z : 0 - e.offset ≡ 0 = omega arith in rw z (jobs_none e.jobs.period e.jobs.execution)

nothing_new : (w : List New) → new_sum w 0 ≡ 0
nothing_new w = list_none (after 0) none_yet w

-- so the window at the last phase is that of the old tasks alone
pub last_steady : (c : ℕ) (o : List Old) (w : List New) (limit : ℕ) → window_at (flat_demand c o w) limit limit ≡ flat_steady c o limit
unfolding window_at flat_steady flat_demand sum_of
last_steady c o w limit =
    window_same (flat_demand c o w limit) (flat_demand c o [] limit) limit
    (λ u h. let z : u - limit ≡ 0 = omega arith in rw z (omega (arith, nothing_new w)))

pub flat_climbs : (c : ℕ) (o : List Old) (w : List New) (x limit : ℕ) → 1 ≤ c → c ≤ limit → Climbs (flat_demand c o w x) limit c
flat_climbs c o w x limit h l = climb_start (flat_demand c o w x) limit c h l (flat_least c o w x)

pub request_over : (c : ℕ) (w : List New) (limit : ℕ) → limit < c → flat_request c w limit ≡ None
unfolding flat_request window_of
request_over c w limit h = where_none (closes (flat_demand c [] w 0)) limit 1 (λ u a l. lt-leb (flat_demand c [] w 0 u) u (omega (arith, flat_least c [] w 0 u)))

pub steady_within : (c : ℕ) (o : List Old) (limit t : ℕ) → flat_steady c o limit ≡ Some t → t ≤ limit
unfolding flat_steady
steady_within c o limit t e = (window_found (flat_demand c o [] limit) limit t e).within

pub request_within : (c : ℕ) (w : List New) (limit t : ℕ) → flat_request c w limit ≡ Some t → t ≤ limit
unfolding flat_request
request_within c w limit t e = (window_found (flat_demand c [] w 0) limit t e).within

module _ (f : ℕ → ℕ → ℕ) (limit : ℕ) (first : 1 ≤ limit) where
  pub worst_within : (s : Worst) → sweep (window_at f limit) limit ≡ Ok s → (s.window ≤ limit) × (s.phase ≤ limit)
  unfolding window_at
  worst_within s e =
      let k : IsWorst (λ x. window_of (f x) limit) limit s = rw e at (sweep_is f limit limit) in
      ((window_found (f s.phase) limit s.window (k.gives first).1).within, k.within)

  pub late_within : (x : ℕ) → sweep (window_at f limit) limit ≡ Err x → x ≤ limit
  unfolding window_at
  late_within x e =
      let k : IsLate (λ y. window_of (f y) limit) limit x = rw e at (sweep_is f limit limit) in
      k.within

-- ---- nothing above

module _ (c limit : ℕ) (first : 1 ≤ c) (fits : c ≤ limit) where
  alone : (x t : ℕ) → flat_demand c [] [] x t ≡ c
  unfolding flat_demand sum_of
  alone x t = omega arith

  alone_window : (x : ℕ) → window_of (flat_demand c [] [] x) limit ≡ Some c
  alone_window x =
      climb_at (flat_demand c [] [] x) limit c c (climb_start (flat_demand c [] [] x) limit c first fits (λ u. omega (arith, alone x u))) (sym (alone x c)) refl

  alone_sweep : (d : ℕ) → sweep (window_at (flat_demand c [] []) limit) (suc d) ≡ Ok (record { window = c; phase = 1 })
  unfolding sweep window_at next_of take_of
  alone_sweep zero = rw (alone_window 1, lt-ltb 0 c first)
  alone_sweep (suc d) = rw (alone_sweep d, alone_window (suc (suc d)), le-ltb c c (omega arith))

pub alone_row : (c : ℕ) (o : List Old) (w : List New) (d : ℕ) → length o ≡ 0 → length w ≡ 0 → 1 ≤ c → c ≤ d
    → completed_row (sweep (window_at (flat_demand c o w) d) d) (flat_steady c o d) ≡ Ok (row c 1 c)
unfolding flat_steady
alone_row c o w zero n k h l = absurd (omega arith)
alone_row c o w (suc d) n k h l =
    rw (nil_from_length o n, nil_from_length w k, alone_sweep c (suc d) h l d, alone_window c (suc d) h l (suc d))
