-- The tasks of a pair of blocks that both read: what each keeps, and that no two have the same rank.
use Prim.Native.Nat.{ℕ, ◌+◌, ◌-◌, ◌*◌, ◌≤◌, ◌<◌}
use mathlib.Core.Path.{◌≡◌, refl, sym, ap, ◌∙◌}
use mathlib.Core.List.{List, ◌++◌}
use native.Mathlib.Decide.{dec_lt}
use native.Mathlib.Omega.{arith}
use lib.ListN.{length, length-append, get_or-append}
use lib.Seq.{get_or-append-add}
use Rattle.block.specs.declared.Task.{Task}
use Rattle.block.specs.Checks.{no_task}
use Rattle.block.specs.Legal.{Legal}
use Rattle.window.proofs.Sides.{side_old, side_new}
use Rattle.block.specs.declared.Kind.{Kind}
use Rattle.block.specs.declared.Kind.TheVariants.{Completed, Aborted, New}
use Rattle.window.specs.Order.{rank}
use Rattle.run.specs.Promise.{count, task}

-- by kind, with the equation
pub by_kind {ℓ} : (P : Kind → Type ℓ) (k : Kind) → (k ≡ Completed → P Completed) → (k ≡ Aborted → P Aborted) → (k ≡ New → P New) → P k
by_kind P Completed a b c = a refl
by_kind P Aborted a b c = b refl
by_kind P New a b c = c refl

-- what the proof uses of tasks
pub record Sound (n : ℕ) (tk : ℕ → Task) : Type 0 where
  pub period : (i : ℕ) → i < n → 0 < (tk i).period
  pub execution : (i : ℕ) → i < n → 0 < (tk i).execution
  pub in_deadline : (i : ℕ) → i < n → (tk i).execution ≤ (tk i).deadline
  pub in_period : (i : ℕ) → i < n → (tk i).deadline ≤ (tk i).period
  pub ranks : (i j : ℕ) → i < n → j < n → rank (tk i) ≡ rank (tk j) → i ≡ j

-- a priority is borne at one place
one_bears : (xs : List Task) → ((j k : ℕ) → j < k → k < length xs → (task xs j).priority ≡ (task xs k).priority → ⊥)
    → (i j : ℕ) → i < length xs → j < length xs → (task xs i).priority ≡ (task xs j).priority → i ≡ j
one_bears xs differ i j l h e =
    elim (dec_lt i j) [
      | yes d ↦ absurd (differ i j d h e)
      | no d ↦ elim (dec_lt j i) [
        | yes c ↦ absurd (differ j i c l (sym e))
        | no c ↦ omega arith
      ]
    ]

module _ (olds news : List Task) where
  -- the places of the two lists
  old_place : (i : ℕ) → i < length olds → task (olds ++ news) i ≡ task olds i
  old_place i l = get_or-append olds news no_task i l

  new_place : (i : ℕ) → task (olds ++ news) (length olds + i) ≡ task news i
  new_place i = get_or-append-add olds news i no_task

  -- what holds of each old task and of each new one holds at every place
  pub by_side : (P : Task → Type 0) → ((k : ℕ) → k < length olds → P (task olds k)) → ((k : ℕ) → k < length news → P (task news k))
      → (i : ℕ) → i < count (olds ++ news) → P (task (olds ++ news) i)
  by_side P f g i l =
      elim (dec_lt i (length olds)) [
        | yes d ↦ rw (old_place i d) (f i d)
        | no d ↦
            let e : length olds + (i - length olds) ≡ i = omega arith in
            rw (← e, new_place (i - length olds)) (g (i - length olds) (omega (arith, length-append olds news)))
      ]

  module _ (old-legal : Legal 0 olds) (new-legal : Legal 1 news) where
    -- old tasks have even ranks, new ones odd ones
    old_rank : (i : ℕ) → i < length olds → rank (task (olds ++ news) i) ≡ 2 * (task olds i).priority
    unfolding rank
    old_rank i l = rw (old_place i l) (omega (arith, side_old (task olds i).kind ((old-legal.rules i l).old refl)))

    new_rank : (i : ℕ) → i < count (olds ++ news) → ¬ (i < length olds) → rank (task (olds ++ news) i) ≡ 2 * (task news (i - length olds)).priority + 1
    unfolding rank
    new_rank i l d =
        let e : length olds + (i - length olds) ≡ i = omega arith in
        ap (λ (k : ℕ). rank (task (olds ++ news) k)) (sym e)
        ∙ rw (new_place (i - length olds)) (omega (arith, side_new (task news (i - length olds)).kind (omega (arith, (new-legal.rules (i - length olds) (omega (arith, length-append olds news))).new refl))))

    ranks : (i j : ℕ) → i < count (olds ++ news) → j < count (olds ++ news) → rank (task (olds ++ news) i) ≡ rank (task (olds ++ news) j) → i ≡ j
    ranks i j l h e =
        elim (dec_lt i (length olds)) [
          | yes d ↦ elim (dec_lt j (length olds)) [
            | yes c ↦ one_bears olds old-legal.priorities i j d c (omega (arith, old_rank i d, old_rank j c))
            | no c ↦ absurd (omega (arith, old_rank i d, new_rank j h c))
          ]
          | no d ↦ elim (dec_lt j (length olds)) [
            | yes c ↦ absurd (omega (arith, new_rank i l d, old_rank j c))
            | no c ↦
                let z = one_bears news new-legal.priorities (i - length olds) (j - length olds)
                (omega (arith, length-append olds news)) (omega (arith, length-append olds news)) (omega (arith, new_rank i l d, new_rank j h c)) in
                omega arith
          ]
        ]

    pub sound : Sound (count (olds ++ news)) (task (olds ++ news))
    sound = record {
      period = by_side (λ x. 0 < x.period) (λ k l. (old-legal.rules k l).period) (λ k l. (new-legal.rules k l).period);
      execution = by_side (λ x. 0 < x.execution) (λ k l. (old-legal.rules k l).execution) (λ k l. (new-legal.rules k l).execution);
      in_deadline = by_side (λ x. x.execution ≤ x.deadline) (λ k l. (old-legal.rules k l).in_deadline) (λ k l. (new-legal.rules k l).in_deadline);
      in_period = by_side (λ x. x.deadline ≤ x.period) (λ k l. (old-legal.rules k l).in_period) (λ k l. (new-legal.rules k l).in_period);
      ranks = ranks;
    }
