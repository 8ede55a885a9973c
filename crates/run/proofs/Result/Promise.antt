-- THE PROMISE: the proof of both halves, for two blocks and the analysis' own answer and report.
use Prim.Native.Nat.{ℕ, ◌<◌}
use mathlib.Core.Path.{◌≡◌}
use mathlib.Core.List.{List, ◌++◌}
use native.Mathlib.Omega.{arith}
use Rattle.block.specs.declared.Task.{Task}
use Rattle.block.specs.Legal.{Legal}
use Rattle.block.proofs.Reading.{reading_legal}
use Rattle.block.specs.declared.Kind.TheVariants.{Completed}
use Rattle.window.specs.Order.{kind_of}
use Rattle.pair.specs.Analysis.{analyse_of}
use Rattle.pair.specs.Accepted.{Accepted}
use Rattle.pair.proofs.Kept.{accepted}
use Rattle.run.specs.Promise.{count, task, first_number, NoAbortedAbove, Reached, AllEnd, Bounds, Promise}
use Rattle.run.proofs.Tasks.{Sound, sound}
use Rattle.run.proofs.Behaviour.Levels.{no_loss}
use Rattle.run.proofs.Analysis.Windows.{Windows}
use Rattle.run.proofs.Result.Within.{within}
use Rattle.run.proofs.Analysis.Rows.{row_windows, row_least}
use Rattle.run.proofs.Result.Exact.{worst_run, worst_run_lem, worst_job, reached}
use Rattle.run.proofs.Result.Accepted.{first_numbers}

module _ (old_block new_block report : List ℕ) (a : Accepted old_block new_block report (analyse_of old_block new_block report).report) (old-legal : Legal 0 a.olds) (new-legal : Legal 1 a.news) where
  abbrev n : ℕ
  n = count (a.olds ++ a.news)

  abbrev tk : ℕ → Task
  tk = task (a.olds ++ a.news)

  abbrev number : ℕ → ℕ
  number = first_number (analyse_of old_block new_block report).report

  G : Sound n tk
  G = sound a.olds a.news old-legal new-legal

  windows : (i : ℕ) → i < n → Windows (kind_of (tk i)) n tk 0 i (number i)
  windows i l = let r = first_numbers old_block new_block report (analyse_of old_block new_block report).report a i l in rw r.2 (row_windows a.olds a.news old-legal new-legal i l r.0 r.1)

  first_half : AllEnd n tk number
  first_half R is = within n tk G (λ i. 0) number windows R is.releases is.schedule.pending (no_loss n tk R is.schedule)

  second_half : (i : ℕ) → i < n → kind_of (tk i) ≡ Completed → NoAbortedAbove n tk i → Reached n tk i (number i)
  second_half i l k clear =
      let r = first_numbers old_block new_block report (analyse_of old_block new_block report).report a i l in
      let v = row_least a.olds a.news old-legal new-legal i l r.0 k r.1 in
      let x : ℕ = v.phase in
      reached n tk G i x l v.some (number i) k clear (λ u p c. omega (arith, r.2, v.least u p c))
      (first_half (worst_run n tk i x) (worst_run_lem n tk G i x l v.some) i 0 l (worst_job n tk G i x l v.some k) (rw k tt))

  both_halves : Bounds n tk number
  both_halves = record { within = first_half; exact = second_half }

pub promise : (old_block new_block report : List ℕ) → Promise old_block new_block report
promise old_block new_block report e =
    let a = accepted old_block new_block report e in
    rw (a.old_reads, a.new_reads)
    (both_halves old_block new_block report a
    (reading_legal 0 a.old_mode old_block a.olds a.old_reads) (reading_legal 1 a.new_mode new_block a.news a.new_reads))
