-- What lets the code skip phases: one test at the worst so far, stopping where the windows settle, starting late, and jumping to where the old terms grow.
use Prim.Native.Nat.{ℕ, zero, suc, ◌+◌, ◌-◌, ◌≤◌, ◌<◌, min, max}
use mathlib.Core.Path.{◌≡◌, refl}
use Rattle.std.specs.Prelude.{List, None, Some, Result, Ok, Err}
use mathlib.Core.Logic.{⊎_elim}
use borrow.Author.Tests.{le-ltb, lt-ltb}
use native.Mathlib.Omega.{arith}
use native.Mathlib.Nat.{add-zero, add-suc, le_trans}
use Rattle.base.specs.Search.{Climbs}
use Rattle.base.proofs.Search.{Rises, Window, window_found, window_by, climb_from, le_or_lt}
use Rattle.term.specs.declared.Old.{Old}
use Rattle.term.specs.declared.New.{New}
use Rattle.term.specs.Terms.{Ready, flat_demand, next_phase, prev_phase}
use Rattle.term.proofs.Terms.{flat_rises, flat_same, flat_least, flat_shift, flat_calm, phase_still, phase_level}
use Rattle.window.specs.declared.Worst.{Worst}
use Rattle.window.specs.declared.Windows.{Windows}
use Rattle.window.specs.declared.State.{State}
use Rattle.window.specs.Worst.{take_of, next_of, sweep}
use Rattle.window.specs.Phases.{asks, window_at, Begun, Kept, Seen}

-- ---- ---- what the demands of one task at all phases have in common
pub record Family (f : ℕ → ℕ → ℕ) (c : ℕ) : Type 0 where
  pub rises : (x : ℕ) → Rises (f x)
  pub same : (x y t : ℕ) → t ≤ x → t ≤ y → f x t ≡ f y t
  pub least : (x t : ℕ) → c ≤ f x t
  pub some : 1 ≤ c
  pub shift : (x y u : ℕ) → f y (y + u) + f x x ≡ f x (x + u) + f y y

-- no t below `start` closes at x or later
abbrev pub Unmet : (ℕ → ℕ → ℕ) → ℕ → ℕ → Type 0
Unmet f x start = (y u : ℕ) → x ≤ y → u < start → u < f y u

module _ (f : ℕ → ℕ → ℕ) (limit : ℕ) where
  -- a phase that closes by a v no later than the best brings nothing
  pub calm : (s : Worst) (y v : ℕ) → 1 ≤ v → v ≤ s.window → s.window ≤ limit → f y v ≤ v → next_of (Ok s) (window_at f limit y) y ≡ Ok s
  unfolding next_of window_at take_of
  calm s y v h l m e =
      let k = window_by (f y) limit v h (omega arith) e in
      rw k.is (rw (le-ltb s.window k.at (omega (arith, k.by))))

  pub more : (s : Worst) (r : Result Worst ℕ) (a : ℕ) → sweep (window_at f limit) a ≡ Ok s → next_of (Ok s) (window_at f limit (suc a)) (suc a) ≡ r → sweep (window_at f limit) (suc a) ≡ r
  unfolding sweep
  more s r a e n = rw e n

  -- a stretch of phases that bring nothing
  pub stretch : (s : Worst) (a k : ℕ) → sweep (window_at f limit) a ≡ Ok s → ((y : ℕ) → a < y → y ≤ a + k → next_of (Ok s) (window_at f limit y) y ≡ Ok s)
      → sweep (window_at f limit) (a + k) ≡ Ok s
  stretch s a zero e q = rw add-zero e
  stretch s a (suc k) e q = rw add-suc (more s (Ok s) (a + k) (stretch s a k e (λ y i j. q y i (omega arith))) (q (suc (a + k)) (omega arith) (omega arith)))

  late_stays : (y a k : ℕ) → sweep (window_at f limit) a ≡ Err y → sweep (window_at f limit) (a + k) ≡ Err y
  unfolding sweep next_of
  late_stays y a zero e = rw add-zero e
  late_stays y a (suc k) e = rw (add-suc, late_stays y a k e)

module _ {f : ℕ → ℕ → ℕ} {c : ℕ} (fam : Family f c) where
  -- what closes before its request closes at every later one
  settled : (x v : ℕ) → v ≤ x → f x v ≤ v → (y : ℕ) → x ≤ y → f y v ≤ v
  settled x v h e y l = omega (arith, fam.same x y v h (omega arith))

  pub unmet_all : {limit : ℕ} (x t : ℕ) → Window (f x) limit t → (u : ℕ) → u < t → u < f x u
  unmet_all x t w zero l = omega (arith, fam.least x 0, fam.some)
  unmet_all x t w (suc u) l = w.unmet (suc u) (omega arith) l

  -- what does not close before its request closes at no later one
  unmet_more : {limit : ℕ} (x start t : ℕ) → Unmet f x start → Window (f x) limit t → Unmet f x (max start (min t (x + 1)))
  unmet_more x start t b w y u h l =
      ⊎_elim (λ g. omega (arith, unmet_all x t w u (omega arith), fam.same x y u (omega arith) (omega arith))) (λ g. b y u h g) (le_or_lt start u)

  pub kept_first : {limit : ℕ} → c ≤ limit → Kept f c limit 1 (record { best = (record { window = 0; phase = 0 }); start = c; shut = 0; last = record { phase = 0; reach = 0; base = 0 } })
  unfolding sweep
  kept_first h =
      record {
        some = omega arith;
        within = omega arith;
        phases = refl;
        fits = omega arith;
        first = fam.some;
        low = omega arith;
        unmet = λ y u i g. omega (arith, fam.least y u);
        past = omega arith;
        told = record { based = λ h. absurd (omega arith); under = λ u g. absurd (omega arith); fits = omega arith };
      }

  module _ {limit x : ℕ} {s : State} (kept : Kept f c limit x s) where
    pub seen_best : f x s.best.window ≤ s.best.window → Seen f c limit x s (record { best = s.best; start = s.start; shut = s.best.window; last = s.last })
    seen_best e =
        let h : 1 ≤ s.best.window = omega (arith, fam.least x s.best.window, fam.some) in
        record {
          phases = calm f limit s.best x s.best.window h (omega arith) kept.fits e;
          fits = kept.fits;
          first = kept.first;
          low = omega (arith, kept.low);
          unmet = kept.unmet;
          shuts = e;
          some = h;
          by = omega arith;
          past = omega (arith, kept.past);
          told = kept.told;
        }

    -- a search may start where the state says, or as far behind the request as the last window where the old tasks ask for all the time since
    pub kept_climbs : c ≤ limit → x ≤ limit → (r : ℕ) → Begun s x (f x x) limit r → Climbs (f x) limit r
    kept_climbs h l r =
        ⊎_elim
        (λ e. climb_from (f x) limit r (fam.rises x) (omega (arith, kept.first)) (omega (arith, kept.low)) (λ u g. kept.unmet x u (omega arith) (omega arith)))
        (λ b. climb_from (f x) limit r (fam.rises x) (omega (arith, b.3, kept.first)) (omega (arith, b.3, kept.low)) (λ u g. ⊎_elim (λ i. behind b u (omega (arith, b.3))) (λ i. kept.unmet x u (omega arith) i) (le_or_lt s.start u)))
      where
        behind : (s.last.phase < s.last.reach) × (x ≤ s.last.base) × (s.last.base + (x - s.last.phase) ≤ f x x) × (r ≡ max s.start (min (s.last.reach + (x - s.last.phase)) limit)) → (u : ℕ) → u < s.last.reach + (x - s.last.phase) → u < f x u
        behind b u g = ⊎_elim early (λ i. ⊎_elim (late i) (between i) (le_or_lt x u)) (le_or_lt u s.last.phase)
          where
            early : u ≤ s.last.phase → u < f x u
            early i = omega (arith, kept.told.under u (omega (arith, b.0)), fam.same s.last.phase x u i (omega (arith, kept.past)))

            between : s.last.phase < u → u < x → u < f x u
            between i j = omega (arith, b.1, kept.told.based (omega (arith, b.1)), fam.rises u s.last.phase u (omega arith), fam.same u s.last.phase s.last.phase (omega arith) (omega arith), fam.same x u u (omega arith) (omega arith))

            late : s.last.phase < u → x ≤ u → u < f x u
            late i j = later (u - x) (omega arith) (kept.told.under (s.last.phase + (u - x)) (omega (arith, kept.past)))
              where
                later : (v : ℕ) → x + v ≡ u → s.last.phase + v < f s.last.phase (s.last.phase + v) → u < f x u
                later v e o =
                    let z : x + v < f x (x + v) = omega (arith, fam.shift s.last.phase x v, o, b.2, kept.told.based (omega (arith, b.1)), kept.past) in
                    rw e at z

    take_window : (b : Worst) (t y : ℕ) → (t ≤ (take_of b t y).window) × ((take_of b t y).window ≤ max t b.window)
    unfolding take_of
    take_window b t y = ⊎_elim (λ h. rw (le-ltb b.window t h) (omega arith, omega arith)) (λ h. rw (lt-ltb b.window t h) (omega arith, omega arith)) (le_or_lt t b.window)

    pub seen_window : (t : ℕ) → window_at f limit x ≡ Some t → Seen f c limit x s (record { best = take_of s.best t x; start = max s.start (min t (x + 1)); shut = t; last = record { phase = x; reach = t; base = f x x } })
    unfolding next_of window_at
    seen_window t e =
        let w = window_found (f x) limit t e in
        let k = take_window s.best t x in
        record {
          phases = rw e;
          fits = omega (arith, k.1, w.within, kept.fits);
          first = omega (arith, kept.first);
          low = omega (arith, kept.low);
          unmet = unmet_more x s.start t kept.unmet w;
          shuts = w.closes;
          some = w.first;
          by = k.0;
          past = omega arith;
          told = record { based = λ h. refl; under = unmet_all x t w; fits = w.within };
        }

    pub sweep_late : x ≤ limit → window_at f limit x ≡ None → sweep (window_at f limit) limit ≡ Err x
    unfolding next_of
    sweep_late h e =
        let i : suc (x - 1) ≡ x = omega (arith, kept.some) in
        let m : sweep (window_at f limit) (suc (x - 1)) ≡ Err x = more f limit s.best (Err x) (x - 1) kept.phases (rw (i, e)) in
        let j : suc (x - 1) + (limit - x) ≡ limit = omega (arith, kept.some) in
        rw j at (late_stays f limit x (suc (x - 1)) (limit - x) m)

    module _ {r : State} (seen : Seen f c limit x s r) where
      done : sweep (window_at f limit) x ≡ Ok r.best
      done =
          let i : suc (x - 1) ≡ x = omega (arith, kept.some) in
          rw i at (more f limit s.best (Ok r.best) (x - 1) kept.phases (rw i seen.phases))

      shut : (y : ℕ) → f y r.shut ≤ r.shut → next_of (Ok r.best) (window_at f limit y) y ≡ Ok r.best
      shut y h = calm f limit r.best y r.shut seen.some seen.by seen.fits h

      pub sweep_early : x ≤ limit → r.shut ≤ x → sweep (window_at f limit) limit ≡ Ok r.best
      sweep_early h l =
          let j : x + (limit - x) ≡ limit = omega arith in
          rw j at (stretch f limit r.best x (limit - x) done (λ y i k. shut y (settled x r.shut l seen.shuts y (omega arith))))

      -- x' is the next phase at which the old tasks' part grows
      pub kept_next : (x' : ℕ) → x < x' → x' ≤ limit + 1 → ((y t : ℕ) → x ≤ y → y < x' → f y t ≤ f x t) → Kept f c limit x' r
      kept_next x' h l q =
          let j : x + (x' - 1 - x) ≡ x' - 1 = omega arith in
          record {
            some = omega arith;
            within = l;
            phases = rw j at (stretch f limit r.best x (x' - 1 - x) done (λ y i k. shut y (le_trans (q y r.shut (omega arith) (omega arith)) seen.shuts)));
            fits = seen.fits;
            first = seen.first;
            low = omega (arith, seen.low);
            unmet = λ y u i g. seen.unmet y u (omega arith) g;
            past = omega (arith, seen.past);
            told = seen.told;
          }

pub flat_family : (c : ℕ) (o : List Old) (w : List New) → 1 ≤ c → Family (flat_demand c o w) c
flat_family c o w h = record { rises = flat_rises c o w; same = flat_same c o w; least = flat_least c o w; some = h; shift = flat_shift c o w }

pub family : (w : Windows) → Family (asks w.demand) w.demand.own
family w = flat_family w.demand.own w.demand.old.now w.demand.new.now w.some

pub phase_later : (o : List Old) (w : List New) (x limit : ℕ) → Ready o w → x ≤ limit → x < next_phase o x limit
phase_later o w x limit r h = (phase_still o w x limit r h).later

-- up to the next phase at which the old tasks grow, the demand is nowhere above that at x
pub calm_next : (w : Windows) (x z : ℕ) → z ≡ next_phase w.demand.old.now x w.limit → x ≤ w.limit → (y t : ℕ) → x ≤ y → y < z → asks w.demand y t ≤ asks w.demand x t
calm_next w x z e h y t i j =
    let d = w.demand in
    let k = phase_still d.old.now d.new.now x w.limit d.ready h in
    flat_calm d.own d.old.now d.new.now x y t i (k.still y i (omega arith))

-- from the last phase at which they grow, nowhere above that
pub calm_prev : (w : Windows) (m z : ℕ) → z ≡ prev_phase w.demand.old.now m → (y t : ℕ) → z ≤ y → y ≤ m + 1 → asks w.demand y t ≤ asks w.demand z t
calm_prev w m z e y t i j =
    let d = w.demand in
    let k = phase_level d.old.now d.new.now m d.ready in
    flat_calm d.own d.old.now d.new.now z y t i (k.level z y (omega arith) i j)
