-- The public function's contract leaves one content of the lent slice, whatever the elements are.
use mathlib.Core.Path.{◌≡◌, sym, ◌∙◌}
use contract.Lifetimes.{Lfts}
use borrow.Fn.Kinds.{Dens, res_t, ended_of}
use denote.RattleType.{RattleType}
use denote.Param.Laws.{Laws, IsCopy}
use denote.Triple.Clauses.{AtExit}
use mir.Syntax.{Dict}
use Rattle.std.specs.declared.clone.Clone.{Ghosts}
use Rattle.base.proofs.copy_over.Reads as copy_over
use Rattle.base.proofs.copy_over.Kinds as copy_over_kinds

module _ (T : RattleType) (laws : Laws T) (copy : IsCopy T) (clone : Ghosts T.Denot) (d : Dict) where
  pub copy_over_unique : (κs : Lfts 3) (a : Dens κs (copy_over_kinds.ps T laws copy)) (r r' : (res_t (copy_over_kinds.r T laws copy) κs).Denot)
      (s s' : AtExit (ended_of 3 (copy_over_kinds.ps T laws copy) (copy_over_kinds.r T laws copy)) κs)
      → copy_over.Post T laws copy clone d κs a r s → copy_over.Post T laws copy clone d κs a r' s' → s.0.now ≡ s'.0.now
  copy_over_unique κs a r r' s s' p q = p ∙ sym q
