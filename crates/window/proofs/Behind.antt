-- What lets the code go through the phases backwards: a window reaches no further behind its request than the last one searched, unless the old tasks ask for more before it.
use Prim.Native.Nat.{ℕ, zero, suc, ◌+◌, ◌-◌, ◌≤◌, ◌<◌}
use mathlib.Core.Path.{◌≡◌, refl, ◌∙◌}
use mathlib.Core.Bool.{cond}
use Rattle.std.specs.Prelude.{Some, Ok}
use mathlib.Core.Logic.{⊎_elim}
use lib.Dec.{ltb}
use borrow.Author.Tests.{le-ltb, lt-ltb}
use native.Mathlib.Omega.{arith}
use native.Mathlib.Nat.{le_trans}
use Rattle.base.specs.Search.{Climbs}
use Rattle.base.proofs.Search.{Window, window_found, window_by, climb_from, climb_at, le_or_lt}
use Rattle.window.specs.declared.Worst.{Worst}
use Rattle.window.specs.declared.Back.{Back}
use Rattle.window.specs.Worst.{take_of, next_of, sweep}
use Rattle.window.specs.Phases.{window_at}
use Rattle.window.specs.Behind.{Bar, Fine, Held, Seen}
use Rattle.window.proofs.Phases.{Family, calm, more, stretch, unmet_all}

module _ {f : ℕ → ℕ → ℕ} {c : ℕ} (fam : Family f c) where
  -- ---- the end: what all phases agree on is the worst
  module _ {limit : ℕ} (b : Worst) (fits : b.window ≤ limit) (shown : 1 ≤ b.phase) (inside : b.phase ≤ limit) (gives : window_at f limit b.phase ≡ Some b.window)
      (all : (y : ℕ) → 1 ≤ y → y ≤ limit → Fine f limit b y) where
    -- before its phase only smaller windows are met
    pub record Lower (n : ℕ) : Type 0 where
      pub best : Worst
      pub is : sweep (window_at f limit) n ≡ Ok best
      pub less : best.window < b.window

    -- a phase more
    still : (n t : ℕ) → Lower n → window_at f limit (suc n) ≡ Some t → t < b.window → Lower (suc n)
    unfolding sweep next_of take_of
    still n t l k s =
        let e : sweep (window_at f limit) (suc n) ≡ Ok (take_of l.best t (suc n)) = rw (l.is, k) in
        ⊎_elim
        (λ g. record { best = l.best; is = e ∙ rw (le-ltb l.best.window t g); less = l.less })
        (λ g. record { best = record { window = t; phase = suc n }; is = e ∙ rw (lt-ltb l.best.window t g); less = s })
        (le_or_lt t l.best.window)

    lower : (n : ℕ) → n < b.phase → Lower n
    unfolding sweep window_at
    lower zero h =
        record { best = record { window = 0; phase = 0 }; is = refl; less = omega (arith, (window_found (f b.phase) limit b.window gives).first) }
    lower (suc n) h =
        let d = all (suc n) (omega arith) (omega arith) in
        let k = window_by (f (suc n)) limit d.v d.some (omega (arith, d.by)) d.shuts in
        still n k.at (lower n (omega arith)) k.is (omega (arith, k.by, d.less h))

    taken : (n : ℕ) → suc n ≡ b.phase → Lower n → sweep (window_at f limit) (suc n) ≡ Ok b
    unfolding next_of take_of
    taken n i l = more f limit l.best (Ok b) n l.is (rw (i, gives, lt-ltb l.best.window b.window l.less))

    at_phase_lem : sweep (window_at f limit) b.phase ≡ Ok b
    at_phase_lem = let i : suc (b.phase - 1) ≡ b.phase = omega arith in rw i at (taken (b.phase - 1) i (lower (b.phase - 1) (omega arith)))

    pub sweep_all : sweep (window_at f limit) limit ≡ Ok b
    sweep_all =
        let j : b.phase + (limit - b.phase) ≡ limit = omega arith in
        rw j at (stretch f limit b b.phase (limit - b.phase) at_phase_lem (λ y h l. let d = all y (omega arith) (omega arith) in calm f limit b y d.v d.some d.by fits d.shuts))

  -- ---- the start
  module _ (limit t w : ℕ) (settles : window_at f limit limit ≡ Some t) (first : window_at f limit 1 ≡ Some w) where
    last : Window (f limit) limit t
    unfolding window_at
    last = window_found (f limit) limit t settles

    begins : Window (f 1) limit w
    unfolding window_at
    begins = window_found (f 1) limit w first

    early : (u : ℕ) → u < t → u < f t u
    early u h = omega (arith, unmet_all fam limit t last u h, fam.same limit t u (omega (arith, last.within)) (omega arith))

    climbs : Climbs (f t) limit t
    climbs = climb_from (f t) limit t (fam.rises t) last.first last.within early

    whole : t ≡ f t t
    whole = omega (arith, climbs.up, last.closes, fam.same limit t t last.within (omega arith))

    own : window_at f limit t ≡ Some t
    unfolding window_at
    own = climb_at (f t) limit t t climbs whole refl

    fine_late : (b : Worst) → t ≤ b.window → b.phase ≤ t → (y : ℕ) → t ≤ y → Fine f limit b y
    fine_late b g h y l = record { v = t; some = last.first; shuts = omega (arith, last.closes, fam.same limit y t last.within l); by = g; less = λ i. absurd (omega arith) }

    start_held : (b : Worst) → t ≤ b.window → b.window ≤ limit → 1 ≤ b.phase → b.phase ≤ limit → window_at f limit b.phase ≡ Some b.window → Fine f limit b 1
        → Held f limit t (record { best = b; last = record { phase = t; reach = t; base = t } })
    start_held b g h i j e d =
        record {
          shown = i;
          inside = j;
          gives = e;
          one = d;
          early = λ u l. omega (arith, early u l, fam.same t u u (omega arith) (omega arith));
          past = omega arith;
          based = whole;
          under = λ u l m. absurd (omega arith);
          shuts = omega (arith, whole);
          far = omega arith;
          by = g;
          fits = h;
        }

    -- the state at the start, and that every later phase is fine
    pub record Start (b : Worst) : Type 0 where
      pub held : Held f limit t (record { best = b; last = record { phase = t; reach = t; base = t } })
      pub fine : (y : ℕ) → t ≤ y → Fine f limit b y

    pub start : Start (take_of (record { window = w; phase = 1 }) t t)
    unfolding take_of
    start = ⊎_elim one two (le_or_lt t w)
      where
        one : t ≤ w → Start (cond (ltb w t) (record { window = t; phase = t }) (record { window = w; phase = 1 }))
        one h =
            let b : Worst = record { window = w; phase = 1 } in
            let d : Fine f limit b 1 = record { v = w; some = begins.first; shuts = begins.closes; by = omega arith; less = λ i. absurd (omega arith) } in
            rw (le-ltb w t h)
            (record { held = start_held b h begins.within (omega arith) (omega (arith, last.within, last.first)) first d; fine = fine_late b h last.first })

        two : w < t → Start (cond (ltb w t) (record { window = t; phase = t }) (record { window = w; phase = 1 }))
        two h =
            let b : Worst = record { window = t; phase = t } in
            let d : Fine f limit b 1 = record { v = w; some = begins.first; shuts = begins.closes; by = omega arith; less = λ i. h } in
            rw (lt-ltb w t h)
            (record { held = start_held b (omega arith) last.within last.first last.within own d; fine = fine_late b (omega arith) (omega arith) })

  -- ---- from phase to phase
  pub held_less : {limit x : ℕ} {s : Back} (z : ℕ) → z ≤ x → Held f limit x s → Held f limit z s
  held_less z l held =
      record {
        shown = held.shown;
        inside = held.inside;
        gives = held.gives;
        one = held.one;
        early = λ u h. held.early u (omega arith);
        past = omega (arith, held.past);
        based = held.based;
        under = held.under;
        shuts = held.shuts;
        far = held.far;
        by = held.by;
        fits = held.fits;
      }

  pub fine_still : {limit : ℕ} (b : Worst) (z y : ℕ) → z ≤ y → ((t : ℕ) → f y t ≤ f z t) → Fine f limit b z → Fine f limit b y
  fine_still b z y h q d = record { v = d.v; some = d.some; shuts = le_trans (q d.v) d.shuts; by = d.by; less = λ i. d.less (omega arith) }

  -- z was seen, and up to x the demand is nowhere above that at z: so all phases from z on are fine
  pub fine_from : {limit x z : ℕ} {s r : Back} → z < x → ((y : ℕ) → x ≤ y → y ≤ limit → Fine f limit s.best y) → Seen f limit z s r
      → ((y t : ℕ) → z ≤ y → y < x → f y t ≤ f z t) → (y : ℕ) → z ≤ y → y ≤ limit → Fine f limit r.best y
  fine_from {x = x} {z = z} {r = r} l done seen low y h i =
      ⊎_elim (λ j. seen.keeps y (omega arith) (done y j i)) (λ j. fine_still r.best z y h (λ t. low y t h j) seen.fine) (le_or_lt x y)

  -- ---- one phase
  module _ {limit : ℕ} (x : ℕ) {s : Back} (pos : 1 ≤ x) (held : Held f limit (x + 1) s) where
    same : Fine f limit s.best x → Seen f limit x s s
    same d = record { held = held_less x (omega arith) held; fine = d; keeps = λ y h e. e }

    pub seen_one : x ≡ 1 → Seen f limit x s s
    seen_one e = same (rw e held.one)

    pub seen_bar : (r : ℕ) → Bar s.best r → f x r ≤ r → Seen f limit x s s
    seen_bar r b e =
        same
        (record { v = r; some = omega (arith, fam.least x r, fam.some); shuts = e; by = b.by; less = λ h. b.later (omega arith) })

    -- as far behind the request as the last window reaches
    pub seen_short : (a : ℕ) → a ≡ f x x → a + (s.last.phase - x) ≤ s.last.base → Seen f limit x s s
    seen_short a e h = short (s.last.reach - s.last.phase) (omega (arith, held.far))
      where
        short : (u : ℕ) → s.last.phase + u ≡ s.last.reach → Seen f limit x s s
        short u g =
            let q : f s.last.phase (s.last.phase + u) ≤ s.last.phase + u = rw g held.shuts in
            same
            (record {
              v = x + u;
              some = omega arith;
              shuts = omega (arith, fam.shift s.last.phase x u, q, held.based, held.past);
              by = omega (arith, held.by, held.past);
              less = λ i. omega (arith, held.by, held.past);
            })

    module _ (a : ℕ) (is : a ≡ f x x) (more-asked : s.last.base < a + (s.last.phase - x)) where
      behind : (u : ℕ) → u < s.last.reach - (s.last.phase - x) → u < f x u
      behind u h = ⊎_elim (λ l. far (u - x) (omega arith) (held.under (s.last.phase + (u - x)) (omega arith) (omega (arith, held.far, held.past)))) before (le_or_lt x u)
        where
          before : u < x → u < f x u
          before l = omega (arith, held.early u (omega arith), fam.same u x u (omega arith) (omega arith))

          far : (v : ℕ) → x + v ≡ u → s.last.phase + v < f s.last.phase (s.last.phase + v) → u < f x u
          far v e o =
              let z : x + v < f x (x + v) = omega (arith, fam.shift s.last.phase x v, o, is, more-asked, held.based, held.past) in
              rw e at z

      pub back_climbs : Climbs (f x) limit (s.last.reach - (s.last.phase - x))
      back_climbs =
          climb_from (f x) limit (s.last.reach - (s.last.phase - x)) (fam.rises x) (omega (arith, held.far, held.past)) (omega (arith, held.by, held.fits)) behind

      pub seen_found : (r : ℕ) → Bar s.best r → (t : ℕ) → window_at f limit x ≡ Some t
          → Seen f limit x s (record { best = cond (ltb r t) (record { window = t; phase = x }) s.best; last = record { phase = x; reach = t; base = a } })
      unfolding window_at
      seen_found r b t e = ⊎_elim stays takes (le_or_lt t r)
        where
          w : Window (f x) limit t
          w = window_found (f x) limit t e

          reached : x ≤ t
          reached = ⊎_elim (λ h. h) (λ h. absurd (omega (arith, held.early t (omega arith), fam.same t x t (omega arith) (omega arith), w.closes))) (le_or_lt x t)

          told : (d : Worst) → t ≤ d.window → d.window ≤ limit → 1 ≤ d.phase → d.phase ≤ limit → window_at f limit d.phase ≡ Some d.window → Fine f limit d 1
              → Held f limit x (record { best = d; last = record { phase = x; reach = t; base = a } })
          told d g h i j q o =
              record {
                shown = i;
                inside = j;
                gives = q;
                one = o;
                early = λ u m. held.early u (omega arith);
                past = omega arith;
                based = is;
                under = λ u m n. unmet_all fam x t w u n;
                shuts = w.closes;
                far = reached;
                by = g;
                fits = h;
              }

          Goal : Worst → Type 0
          Goal d = Seen f limit x s (record { best = d; last = record { phase = x; reach = t; base = a } })

          stays : t ≤ r → Goal (cond (ltb r t) (record { window = t; phase = x }) s.best)
          stays h =
              rw (le-ltb r t h)
              (record {
                held = told s.best (omega (arith, b.by)) held.fits held.shown held.inside held.gives held.one;
                fine = record { v = t; some = w.first; shuts = w.closes; by = omega (arith, b.by); less = λ i. omega (arith, b.later (omega arith)) };
                keeps = λ y i d. d;
              })

          takes : r < t → Goal (cond (ltb r t) (record { window = t; phase = x }) s.best)
          takes h =
              let n : Worst = record { window = t; phase = x } in
              let o = held.one in
              rw (lt-ltb r t h)
              (record {
                held = told n (omega arith) w.within pos (omega (arith, held.past, held.far, held.by, held.fits)) e
                    (record { v = o.v; some = o.some; shuts = o.shuts; by = omega (arith, o.by, b.near); less = λ i. lesser o.v o.by o.less h });
                fine = record { v = t; some = w.first; shuts = w.closes; by = omega arith; less = λ i. absurd (omega arith) };
                keeps = λ y i d. record { v = d.v; some = d.some; shuts = d.shuts; by = omega (arith, d.by, b.near); less = λ j. absurd (omega arith) };
              })
            where
              lesser : (v : ℕ) → v ≤ s.best.window → (1 < s.best.phase → v < s.best.window) → r < t → v < t
              lesser v p q i = ⊎_elim (λ k. omega (arith, b.first k)) (λ k. omega (arith, q k, b.near)) (le_or_lt s.best.phase 1)
