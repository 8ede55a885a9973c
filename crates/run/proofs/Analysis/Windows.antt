-- The windows that bound a task's jobs, by kind, and the least one. A window need only close; K ticks of it may be lost.
use Prim.Native.Nat.{ℕ, ◌+◌, ◌≤◌, ◌<◌}
use Rattle.block.specs.declared.Task.{Task}
use Rattle.block.specs.declared.Kind.{Kind}
use Rattle.block.specs.declared.Kind.TheVariants.{Completed, Aborted, New}
use Rattle.run.proofs.Analysis.Demands.{demand_old, demand_new, demand_phase, demand_request}

-- the demand at t, with K ticks lost, is at most t
pub record Closes (demand : ℕ → ℕ) (K t : ℕ) : Type 0 where
  pub some : 0 < t
  pub closed : demand t + K ≤ t

-- one for each phase
pub record CompletedWindows (n : ℕ) (tk : ℕ → Task) (K i bound : ℕ) : Type 0 where
  pub window : ℕ → ℕ
  pub closing : (x : ℕ) → 0 < x → x ≤ (tk i).deadline → Closes (demand_phase n tk i x) K (window x)
  pub most : (x : ℕ) → 0 < x → x ≤ (tk i).deadline → window x ≤ bound
  pub timely : bound ≤ (tk i).deadline

-- the steady one
pub record AbortedWindow (n : ℕ) (tk : ℕ → Task) (K i bound : ℕ) : Type 0 where
  pub window : ℕ
  pub closing : Closes (demand_old n tk i) K window
  pub most : window ≤ bound
  pub timely : bound ≤ (tk i).deadline

-- the steady one, and the one from the request
pub record NewWindows (n : ℕ) (tk : ℕ → Task) (K i bound : ℕ) : Type 0 where
  pub steady : ℕ
  pub onward : ℕ
  pub steady_closing : Closes (demand_new n tk i) K steady
  pub onward_closing : Closes (demand_request n tk i) K onward
  pub steady_most : steady ≤ bound
  pub onward_most : onward ≤ (tk i).offset + bound
  pub timely : bound ≤ (tk i).deadline

abbrev pub Windows : Kind → (n : ℕ) → (ℕ → Task) → ℕ → ℕ → ℕ → Type 0
Windows Completed n tk K i bound = CompletedWindows n tk K i bound
Windows Aborted n tk K i bound = AbortedWindow n tk K i bound
Windows New n tk K i bound = NewWindows n tk K i bound

-- the number is the least window at a phase
pub record Least (n : ℕ) (tk : ℕ → Task) (i number : ℕ) : Type 0 where
  pub phase : ℕ
  pub some : 0 < phase
  pub least : (u : ℕ) → 0 < u → demand_phase n tk i phase u ≤ u → number ≤ u
