-- What an earlier record bears, record by record.
use Rattle.std.proofs.Common.{ℕ, ◌≡◌, ◌<◌, ◌+◌, true, false, ap, ◌∙◌, add-one, arith}
use Rattle.base.specs.Lists.{up_to, any}
use Rattle.base.proofs.Lists.{up_length, up_at, up_take, any_more, any_at}
use Rattle.block.specs.declared.Task.{Task}
use Rattle.block.specs.Answers.{refusal, refuse}
use Rattle.block.specs.Checks.{alike, borne_in, double_check, no_task}

-- tasks f 0, f 1, ..
module _ (f : ℕ → Task) where
  pub borne_more : (x : Task) (j : ℕ) → borne_in x (up_to f j) ≡ false → alike (f j) x ≡ false → borne_in x (up_to f (j + 1)) ≡ false
  unfolding up_to any
  borne_more x j e h = rw (add-one, any_more, e, h)

  pub borne_at : (x : Task) (j k : ℕ) → j < k → alike (f j) x ≡ true → borne_in x (up_to f k) ≡ true
  borne_at x j k l e =
      any_at (λ y. alike y x) (up_to f k) j no_task (omega (arith, up_length f k))
      (ap (λ (y : Task). alike y x) (up_at f k j no_task l) ∙ e)

  pub double_is : (side n k : ℕ) → k < n → double_check side (up_to f n) k ≡ refuse (borne_in (f k) (up_to f k)) (refusal 6 side k)
  double_is side n k l = rw (up_at f n k no_task l, up_take f n k (omega arith))
