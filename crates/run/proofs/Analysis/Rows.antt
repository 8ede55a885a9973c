-- A timely row: its first number bounds windows that close, and for a completed task it is the least window at one of the phases.
use Prim.Native.Nat.{ℕ, ◌+◌, ◌-◌, ◌≤◌, ◌<◌, max}
use mathlib.Core.Path.{◌≡◌, refl, ap}
use mathlib.Core.List.{List, ◌++◌}
use native.Mathlib.Nat.{le_refl}
use native.Mathlib.Decide.{dec_le}
use native.Mathlib.Omega.{arith}
use Rattle.std.specs.Prelude.{Option, None, Some, Result, Ok, Err}
use Rattle.base.specs.Search.{window_of}
use Rattle.base.proofs.Search.{Window, window_found}
use Rattle.block.specs.declared.Task.{Task}
use Rattle.block.specs.Legal.{Legal}
use Rattle.window.specs.declared.Worst.{Worst}
use Rattle.block.specs.declared.Kind.{Kind}
use Rattle.block.specs.declared.Kind.TheVariants.{Completed, Aborted, New}
use Rattle.window.specs.Order.{kind_of}
use Rattle.window.specs.Demand.{steady_demand, phase_demand, request_demand}
use Rattle.window.specs.Worst.{sweep}
use Rattle.row.specs.declared.Row.{Row}
use Rattle.row.specs.Row.{Judged, or_zero, steady_window, phase_window, request_window, completed_row, aborted_row, new_row, row_by, row_of}
use Rattle.run.specs.Promise.{count, task}
use Rattle.run.proofs.Tasks.{Sound, sound}
use Rattle.run.proofs.Analysis.Demands.{demand_old, demand_new, demand_phase, demand_request, steady_old_lem, steady_new_lem, at_phase_lem, from_request_lem}
use Rattle.window.proofs.Sweep.{IsWorst, sweep_is}
use Rattle.run.proofs.Analysis.Windows.{Closes, CompletedWindows, AbortedWindow, NewWindows, Windows, Least}

same_first : {r r' : Row} → ◌≡◌ {A = Judged} (Ok r) (Ok r') → r.first ≡ r'.first
same_first {r} {r'} e = let z : r ≡ r' = cc in ap (λ (x : Row). x.first) z

not_late : {d : ℕ} {r : Row} → ◌≡◌ {A = Judged} (Err d) (Ok r) → ⊥
not_late e = let z : ◌≡◌ {A = ℕ} 0 1 = cc in omega arith

-- a demand that is the same at every t closes with it
closing : (f g : ℕ → ℕ) (limit t : ℕ) → ((u : ℕ) → f u ≡ g u) → window_of f limit ≡ Some t → Closes g 0 t
closing f g limit t e h = let w = window_found f limit t h in record { some = w.first; closed = omega (arith, w.closes, e t) }

module _ (olds news : List Task) (old-legal : Legal 0 olds) (new-legal : Legal 1 news) (i : ℕ) (l : i < count (olds ++ news)) where
  abbrev n : ℕ
  n = count (olds ++ news)

  abbrev tk : ℕ → Task
  tk = task (olds ++ news)

  G : Sound n tk
  G = sound olds news old-legal new-legal

  -- ---- completed

  module _ (s : Worst) (over : sweep (phase_window olds news (tk i)) (tk i).deadline ≡ Ok s) where
    w : IsWorst (phase_window olds news (tk i)) (tk i).deadline s
    w = rw over at (sweep_is (phase_demand olds news (tk i)) (tk i).deadline (tk i).deadline)

    at : (x t : ℕ) → phase_window olds news (tk i) x ≡ Some t → Window (phase_demand olds news (tk i) x) (tk i).deadline t
    at x t e = window_found (phase_demand olds news (tk i) x) (tk i).deadline t e

    -- there is a first phase
    some_phase : 1 ≤ (tk i).deadline
    some_phase = omega (arith, G.execution i l, G.in_deadline i l)

    completed_windows : CompletedWindows n tk 0 i s.window
    completed_windows = record {
      window = λ x. or_zero (phase_window olds news (tk i) x);
      closing = λ x p h.
          let f = w.top x p (omega (arith, some_phase)) in
          rw f.1 (closing (phase_demand olds news (tk i) x) (demand_phase n tk i x) (tk i).deadline f.0 (λ u. at_phase_lem olds news old-legal new-legal i u x) f.1);
      most = λ x p h. let f = w.top x p (omega (arith, some_phase)) in rw f.1 (omega (arith, f.2));
      timely = let v = w.gives some_phase in (at s.phase s.window v.1).within;
    }

    completed_least : Least n tk i s.window
    completed_least =
        let v = w.gives some_phase in
        record {
          phase = s.phase;
          some = v.0;
          least = λ u p c. elim (dec_le s.window u) [
            | yes h ↦ omega arith
            | no h ↦ absurd (omega (arith, (at s.phase s.window v.1).unmet u p (omega arith), at_phase_lem olds news old-legal new-legal i u s.phase))
          ];
        }

  -- ---- by kind, from the row

  windows_by : (k : Kind) (r : Row) → row_by k olds news (tk i) ≡ Ok r → Windows k n tk 0 i r.first
  windows_by Completed r e = go (sweep (phase_window olds news (tk i)) (tk i).deadline) refl e
    where
      go : (a : Result Worst ℕ) → sweep (phase_window olds news (tk i)) (tk i).deadline ≡ a → completed_row a (steady_window olds (tk i)) ≡ Ok r
          → CompletedWindows n tk 0 i r.first
      go (Ok s) h f = rw (same_first f) at (completed_windows s h)
      go (Err x) h f = absurd (not_late f)
  windows_by Aborted r e = go (steady_window olds (tk i)) refl e
    where
      go : (a : Option ℕ) → steady_window olds (tk i) ≡ a → aborted_row a ≡ Ok r → AbortedWindow n tk 0 i r.first
      go (Some t) h f =
          let v : AbortedWindow n tk 0 i t = record {
            window = t;
            closing = closing (steady_demand olds (tk i)) (demand_old n tk i) (tk i).deadline t (λ u. steady_old_lem olds news old-legal new-legal i u) h;
            most = le_refl t;
            timely = (window_found (steady_demand olds (tk i)) (tk i).deadline t h).within;
          } in
          rw (same_first f) at v
      go None h f = absurd (not_late f)
  windows_by New r e = go (steady_window news (tk i)) (request_window olds news (tk i)) refl refl e
    where
      go : (a b : Option ℕ) → steady_window news (tk i) ≡ a → request_window olds news (tk i) ≡ b → new_row (tk i) a b ≡ Ok r → NewWindows n tk 0 i r.first
      go (Some t) (Some u) h g f =
          let v : NewWindows n tk 0 i (max t (u - (tk i).offset)) = record {
            steady = t;
            onward = u;
            steady_closing = closing (steady_demand news (tk i)) (demand_new n tk i) (tk i).deadline t (λ u. steady_new_lem olds news old-legal new-legal i u) h;
            onward_closing = closing (request_demand olds news (tk i)) (demand_request n tk i) ((tk i).offset + (tk i).deadline) u (λ u. from_request_lem olds news old-legal new-legal i u) g;
            steady_most = omega arith;
            onward_most = omega arith;
            timely = omega (
              arith,
              (window_found (steady_demand news (tk i)) (tk i).deadline t h).within,
              (window_found (request_demand olds news (tk i)) ((tk i).offset + (tk i).deadline) u g).within,
            );
          } in
          rw (same_first f) at v
      go None b h g f = absurd (not_late f)
      go (Some t) None h g f = absurd (not_late f)

  pub row_windows : (r : Row) → row_of olds news (task (olds ++ news) i) ≡ Ok r
      → Windows (kind_of (task (olds ++ news) i)) (count (olds ++ news)) (task (olds ++ news)) 0 i r.first
  unfolding row_of
  row_windows r e = windows_by (kind_of (tk i)) r e

  pub row_least : (r : Row) → kind_of (task (olds ++ news) i) ≡ Completed → row_of olds news (task (olds ++ news) i) ≡ Ok r
      → Least (count (olds ++ news)) (task (olds ++ news)) i r.first
  unfolding row_of
  row_least r k e = go (sweep (phase_window olds news (tk i)) (tk i).deadline) refl (rw k at e)
    where
      go : (a : Result Worst ℕ) → sweep (phase_window olds news (tk i)) (tk i).deadline ≡ a → completed_row a (steady_window olds (tk i)) ≡ Ok r → Least n tk i r.first
      go (Ok s) h f = rw (same_first f) at (completed_least s h)
      go (Err x) h f = absurd (not_late f)
