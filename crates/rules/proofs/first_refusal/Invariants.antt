-- `first_refusal` names the first check that refuses. Invariant: none of the first k does.
use Rattle.std.specs.Prelude.{ℕ, ◌≡◌, ◌<◌, Ok}
use Rattle.base.specs.Lists.{up_to}
use Rattle.block.specs.Answers.{Verdict, first_of}
use Rattle.rules.proofs.first_refusal.Given as goal

abbrev pub invariant-loop-k : goal.invariant-loop-k
invariant-loop-k g l =
    (f : ℕ → Verdict) → ((k : ℕ) (v : Verdict) → k < l.n → goal.F-post g l.check k v → v ≡ f k) → first_of (up_to f l.k) ≡ Ok tt
