-- The first half of the promise, from windows that close, least or not: every job that is not cut off ends within its task's bound.
-- A job of task i may lose up to B i ticks to tasks below it.
use Prim.Native.Nat.{ℕ, ◌+◌, ◌-◌, ◌≤◌, ◌<◌, min}
use mathlib.Core.Path.{◌≡◌, ap}
use mathlib.Core.Logic.{inl, inr}
use native.Mathlib.Nat.{le_refl, eq-zero-or-pos}
use native.Mathlib.Decide.{dec_lt, dec_le}
use native.Mathlib.Omega.{arith}
use Rattle.block.specs.declared.Task.{Task}
use Rattle.block.specs.declared.Kind.{Kind}
use Rattle.block.specs.declared.Kind.TheVariants.{Completed, Aborted, New}
use Rattle.window.specs.Order.{kind_of}
use Rattle.window.specs.Demand.{jobs, cut}
use Rattle.run.specs.Run.{Run, Job, Ended, MayCome, Releases}
use Rattle.run.specs.Promise.{NotCut}
use Rattle.run.proofs.Tasks.{Sound, by_kind}
use Rattle.run.proofs.Analysis.Demands.{at_phase, demand_phase, above_le}
use Rattle.run.proofs.Analysis.Windows.{Closes, CompletedWindows, Windows}
use Rattle.run.proofs.Analysis.Whole.{to_whole}
use Rattle.run.proofs.Behaviour.Accounts.{OnlyPending, service_le, stays}
use Rattle.run.proofs.Behaviour.Levels.{LastQuiet, Budget, present_early, start, closes}
use Rattle.run.proofs.Result.Fits.{before, past, after, onward}

module _ (n : ℕ) (tk : ℕ → Task) (G : Sound n tk) (B bound : ℕ → ℕ) (windows : (i : ℕ) → i < n → Windows (kind_of (tk i)) n tk (B i) i (bound i)) where
  pub windows_of : (k : Kind) (i : ℕ) → i < n → kind_of (tk i) ≡ k → Windows k n tk (B i) i (bound i)
  windows_of k i l e = rw e at (windows i l)

  module _ (R : Run) (L : Releases n tk R) (S : OnlyPending n tk R) (budget : Budget n tk R B) where
    -- ---- completed

    -- a job's window starts at s, the request comes at phase x of it, and the job ends in the window of that phase, or of the last one
    pub record InWindow (i r : ℕ) (window : ℕ → ℕ) : Type 0 where
      pub s : ℕ
      pub x : ℕ
      pub starts : s ≤ r
      pub some : 0 < x
      pub phase : R.request ≡ s + x
      pub ends : Ended R i r (s + window (min x (tk i).deadline))

    pub in_window : (i r : ℕ) (l : i < n) (e : kind_of (tk i) ≡ Completed) → Job R i r → InWindow i r (windows_of Completed i l e).window
    in_window i r l e p = record { s = s; x = x; starts = st.1.early; some = px; phase = q_is; ends = finish }
      where
        w : CompletedWindows n tk (B i) i (bound i)
        w = windows_of Completed i l e

        st : (s : ℕ) × LastQuiet n tk R i r s
        st = start n tk R S i r

        s : ℕ
        s = st.0

        x : ℕ
        x = R.request - s

        early : r < R.request
        early = let m : MayCome Completed R.request (tk i).offset r = rw e at (L.comes i r l p) in omega arith

        px : 0 < x
        px = omega (arith, early, st.1.early)

        q_is : R.request ≡ s + x
        q_is = omega (arith, early, st.1.early)

        y : ℕ
        y = min x (tk i).deadline

        py : 0 < y
        py = omega (arith, px, G.execution i l, G.in_deadline i l)

        t : ℕ
        t = w.window y

        c : Closes (demand_phase n tk i y) (B i) t
        c = w.closing y py (omega arith)

        in_time : t ≤ (tk i).deadline
        in_time = omega (arith, w.most y py (omega arith), w.timely)

        -- a phase past the deadline has the demand of the phase at the deadline
        same : (k : Kind) (a : Task) → (tk i).deadline < x → at_phase k a x t ≤ at_phase k a y t
        same Completed a m =
            let z : min t x ≡ min t y = omega (arith, in_time) in
            rw z (le_refl (jobs a (min t y)))
        same Aborted a m =
            let z : min t x ≡ min t y = omega (arith, in_time) in
            rw z (le_refl (cut a (min t y)))
        same New a m =
            let z : t - x - a.offset ≡ t - y - a.offset = omega (arith, in_time) in
            rw z (le_refl (jobs a (t - y - a.offset)))

        at_x : demand_phase n tk i x t + B i ≤ t
        at_x =
            elim (dec_lt (tk i).deadline x) [
              | yes m ↦
                  omega (
                    arith,
                    c.closed,
                    above_le n tk i (λ j. at_phase (kind_of (tk j)) (tk j) x t) (λ j. at_phase (kind_of (tk j)) (tk j) y t) (λ j v u. same (kind_of (tk j)) (tk j) m),
                  )
              | no m ↦
                  let z : x ≡ y = omega arith in
                  let f : demand_phase n tk i x t ≡ demand_phase n tk i y t = ap (λ (z : ℕ). demand_phase n tk i z t) z in
                  omega (arith, c.closed)
            ]

        finish : Ended R i r (s + t)
        finish =
            elim (dec_le t x) [
              | yes m ↦
                  let f = to_whole n tk G i ((tk i).execution + B i) x (omega (arith, G.execution i l)) t m c.some (omega (arith, at_x)) in
                  stays n tk R S i r (s + f.at) (s + t) (omega (arith, f.by))
                  (closes n tk R S B budget i r s s f.at l p st.1 (le_refl s) f.first (rw e tt)
                  (before n tk R G L S i s x f.at (B i) l st.1.quiet q_is px (omega (arith, f.by)) (omega (arith, f.by, in_time, G.in_period i l)) (omega (arith, f.closes))))
              | no m ↦
                  closes n tk R S B budget i r s s t l p st.1 (le_refl s) c.some (rw e tt)
                  (past n tk R G L S i s x t (B i) l e st.1.quiet q_is px (omega arith) (omega (arith, in_time, G.in_period i l)) at_x)
            ]

    completed_ends : (i r : ℕ) → i < n → kind_of (tk i) ≡ Completed → Job R i r → Ended R i r (r + bound i)
    completed_ends i r l e p =
        let w = windows_of Completed i l e in
        let v = in_window i r l e p in
        let y : ℕ = min v.x (tk i).deadline in
        stays n tk R S i r (v.s + w.window y) (r + bound i)
        (omega (arith, v.starts, w.most y (omega (arith, v.some, G.execution i l, G.in_deadline i l)) (omega arith))) v.ends

    -- so within its period, a job or none
    in_period : (j r : ℕ) → j < n → kind_of (tk j) ≡ Completed → Ended R j r (r + (tk j).period)
    in_period j r l e =
        elim (eq-zero-or-pos (R.need j r)) [
          | inl z ↦ omega (arith, service_le n tk R S j r (r + (tk j).period))
          | inr p ↦
              stays n tk R S j r (r + bound j) (r + (tk j).period) (omega (arith, (windows_of Completed j l e).timely, G.in_period j l)) (completed_ends j r l e p)
        ]

    -- ---- aborted: a job that had ended by the request

    aborted_ends : (i r : ℕ) → i < n → kind_of (tk i) ≡ Aborted → Job R i r → Ended R i r R.request → Ended R i r (r + bound i)
    aborted_ends i r l e p whole =
        let w = windows_of Aborted i l e in
        let st = start n tk R S i r in
        let s : ℕ = st.0 in
        let t : ℕ = w.window in
        let early : MayCome Aborted R.request (tk i).offset r = rw e at (L.comes i r l p) in
        elim (dec_lt (s + t) R.request) [
          | yes m ↦
              stays n tk R S i r (s + t) (r + bound i) (omega (arith, st.1.early, w.most))
              (closes n tk R S B budget i r s s t l p st.1 (le_refl s) w.closing.some (present_early (kind_of (tk i)) R.request (s + t) m)
              (before n tk R G L S i s (R.request - s) t (B i) l st.1.quiet (omega arith) (omega arith) (omega arith) (omega (arith, w.most, w.timely, G.in_period i l)) w.closing.closed))
          | no m ↦ stays n tk R S i r R.request (r + bound i) (omega (arith, st.1.early, w.most)) whole
        ]

    -- ---- new

    new_ends : (i r : ℕ) → i < n → kind_of (tk i) ≡ New → Job R i r → Ended R i r (r + bound i)
    new_ends i r l e p =
        let w = windows_of New i l e in
        let st = start n tk R S i r in
        let s : ℕ = st.0 in
        let late : MayCome New R.request (tk i).offset r = rw e at (L.comes i r l p) in
        elim (dec_le R.request s) [
          | yes m ↦
              stays n tk R S i r (s + w.steady) (r + bound i) (omega (arith, st.1.early, w.steady_most))
              (closes n tk R S B budget i r s s w.steady l p st.1 (le_refl s) w.steady_closing.some (rw e tt)
              (after n tk R G L S i s w.steady (B i) l st.1.quiet m (omega (arith, w.steady_most, w.timely, G.in_period i l)) w.steady_closing.closed))
          | no m ↦
              stays n tk R S i r (R.request + w.onward) (r + bound i) (omega (arith, w.onward_most))
              (closes n tk R S B budget i r s R.request w.onward l p st.1 (omega arith) w.onward_closing.some (rw e tt)
              (onward n tk R G L S i w.onward (B i) l e in_period (omega (arith, w.onward_most, w.timely, G.in_period i l)) w.onward_closing.closed))
        ]

    pub within : (i r : ℕ) → i < n → Job R i r → NotCut (kind_of (tk i)) R i r → Ended R i r (r + bound i)
    within i r l p =
        by_kind (λ k. NotCut k R i r → Ended R i r (r + bound i)) (kind_of (tk i))
        (λ e h. completed_ends i r l e p) (λ e h. aborted_ends i r l e p h) (λ e h. new_ends i r l e p)
