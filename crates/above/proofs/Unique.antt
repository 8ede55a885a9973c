-- Each public function's contract leaves one answer and one content of the lent list; gather's leaves one content where what it calls gives one term of each task.
use mathlib.Core.Path.{◌≡◌, sym, ◌∙◌}
use contract.Lifetimes.{Lfts}
use borrow.Fn.Kinds.{Dens, res_t, ended_of}
use denote.RattleType.{RattleType}
use denote.Param.Laws.{Laws, IsCopy}
use denote.Triple.Clauses.{AtExit}
use mir.Syntax.{Dict}
use Rattle.std.specs.declared.clone.Clone.{Ghosts}
use Rattle.above.specs.contracts.gather.F-Fn as called
use Rattle.above.specs.declared.Rolled.{Rolled}
use Rattle.above.specs.Roll.{Gives}
use Rattle.above.proofs.rank_of.Reads as rank_of
use Rattle.above.proofs.rank_of.Kinds as rank_of_kinds
use Rattle.above.proofs.own_time.Reads as own_time
use Rattle.above.proofs.own_time.Kinds as own_time_kinds
use Rattle.above.proofs.roll.Reads as roll
use Rattle.above.proofs.roll.Kinds as roll_kinds
use Rattle.above.proofs.gather.Reads as gather
use Rattle.above.proofs.gather.Kinds as gather_kinds
use Rattle.above.proofs.left.Reads as left
use Rattle.above.proofs.left.Kinds as left_kinds

pub rank_of_unique : (κs : Lfts 0) (a : Dens κs rank_of_kinds.ps) (r r' : (res_t rank_of_kinds.r κs).Denot) (s s' : AtExit (ended_of 0 rank_of_kinds.ps rank_of_kinds.r) κs)
    → rank_of.Post κs a r s → rank_of.Post κs a r' s' → r ≡ r'
rank_of_unique κs a r r' s s' p q = p ∙ sym q

pub own_time_unique : (κs : Lfts 0) (a : Dens κs own_time_kinds.ps) (r r' : (res_t own_time_kinds.r κs).Denot) (s s' : AtExit (ended_of 0 own_time_kinds.ps own_time_kinds.r) κs)
    → own_time.Post κs a r s → own_time.Post κs a r' s' → r ≡ r'
own_time_unique κs a r r' s s' p q = p.0 ∙ sym q.0

pub roll_unique : (κs : Lfts 2) (a : Dens κs roll_kinds.ps) (r r' : (res_t roll_kinds.r κs).Denot) (s s' : AtExit (ended_of 2 roll_kinds.ps roll_kinds.r) κs)
    → roll.Post κs a r s → roll.Post κs a r' s' → s.0.now ≡ s'.0.now
roll_unique κs a r r' s s' p q = p.0 ∙ sym q.0

module _ (T F : RattleType) (laws : Laws T) (laws' : Laws F) (copy : IsCopy T) (clone : Ghosts T.Denot) (d : Dict) (calls : called.Ghosts T F) (d1 d2 d3 d4 : Dict) where
  pub gather_unique : (κs : Lfts 4) (a : Dens κs (gather_kinds.ps T F laws laws' copy)) (r r' : (res_t (gather_kinds.r T F laws laws' copy) κs).Denot)
      (s s' : AtExit (ended_of 4 (gather_kinds.ps T F laws laws' copy) (gather_kinds.r T F laws laws' copy)) κs)
      → gather.Post T F laws laws' copy clone d calls d1 d2 d3 d4 κs a r s → gather.Post T F laws laws' copy clone d calls d1 d2 d3 d4 κs a r' s'
      → (r ≡ r') × ((t : Rolled → T.Denot) → Gives ((called.words T F calls).post a.1.1.1.0) t a.1.0.now → s.0.now ≡ s'.0.now)
  gather_unique κs a r r' s s' p q = (p.0.0 ∙ sym q.0.0, λ t e. (p.1 t e).0 ∙ sym (q.1 t e).0)

pub left_unique : (κs : Lfts 1) (a : Dens κs left_kinds.ps) (r r' : (res_t left_kinds.r κs).Denot) (s s' : AtExit (ended_of 1 left_kinds.ps left_kinds.r) κs)
    → left.Post κs a r s → left.Post κs a r' s' → r ≡ r'
left_unique κs a r r' s s' p q = p.0 ∙ sym q.0
