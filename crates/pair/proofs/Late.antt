-- A pair that reads is called late exactly when some window does not close in time; the task named is the first in block order, old before
-- new, and the detail is the smallest late phase, or steady before the request window.
use Prim.Native.Nat.{ℕ, zero, suc, ◌+◌, ◌*◌, ◌≤◌, ◌<◌}
use mathlib.Core.Path.{◌≡◌, refl, sym, ap, subst, ◌∙◌}
use mathlib.Core.Logic.{◌⊎◌, inl, inr, ⊎_elim}
use mathlib.Core.List.{List, [], ◌∷◌, ◌++◌}
use native.Mathlib.Omega.{arith}
use native.Mathlib.Nat.{eq-or-lt_of_le}
use lib.ListN.{length, get_or}
use Rattle.base.specs.Lists.{up_to}
use Rattle.base.specs.Search.{window_of}
use Rattle.base.proofs.Search.{window_found, window_by, le_or_lt}
use Rattle.block.specs.declared.Task.{Task}
use Rattle.block.specs.declared.Answer.{Answer}
use Rattle.block.specs.Answers.{Verdict, answer, first_of, answer_of}
use Rattle.std.specs.Prelude.{Option, None, Some, Result, Ok, Err}
use Rattle.block.specs.Checks.{no_task}
use Rattle.block.specs.Block.{holds, reading_of}
use Rattle.block.proofs.Verdicts.{first_on, first_stop, first_last, each_at, each_stop}
use Rattle.window.specs.declared.Worst.{Worst}
use Rattle.block.specs.declared.Kind.{Kind}
use Rattle.block.specs.declared.Kind.TheVariants.{Completed, Aborted, New}
use Rattle.window.specs.Order.{kind_of}
use Rattle.window.specs.Demand.{steady_demand, phase_demand, request_demand}
use Rattle.window.specs.Worst.{sweep}
use Rattle.window.proofs.Sweep.{IsSwept, sweep_is}
use Rattle.row.specs.declared.Row.{Row}
use Rattle.row.specs.Row.{Judged, steady_window, phase_window, request_window, completed_row, aborted_row, new_row, row_by, row_of}
use Rattle.rows.specs.Rows.{row_size, late_check, late_checks}
use Rattle.pair.specs.Analysis.{pair_of, analyse_of}
use Rattle.pair.specs.Late.{Closing, Unclosed, LateKind, IsLate, DetailKind, LateBy, InTime, SomeLate, FirstLate, Told, in_time, old_late, new_late}
use Rattle.pair.proofs.Exits.{pair_late, pair_done, analyse_pair}

-- ---- a window that is found, and one that is not

never : (o : Option ℕ) (t : ℕ) → o ≡ Some t → o ≡ None → ⊥
never o t p q = let z : ◌≡◌ {A = ℕ} 0 1 = cc in omega arith

module _ (f : ℕ → ℕ) (limit : ℕ) where
  closing : (w : ℕ) → window_of f limit ≡ Some w → Closing f limit
  closing w e = let k = window_found f limit w e in (w, k.first, k.within, k.closes)

  unclosed : window_of f limit ≡ None → Unclosed f limit
  unclosed e t a b = ⊎_elim (λ h. let k = window_by f limit t a b h in absurd (never _ _ k.is e)) (λ h. h) (le_or_lt (f t) t)

  no_window : Unclosed f limit → window_of f limit ≡ None
  no_window u = go (window_of f limit) refl
    where
      go : (o : Option ℕ) → window_of f limit ≡ o → o ≡ None
      go None e = refl
      go (Some w) e = let k = window_found f limit w e in absurd (omega (arith, k.closes, u w k.first k.within))

  a_window : Closing f limit → (w : ℕ) × (window_of f limit ≡ Some w)
  a_window (t, a, b, h) = let k = window_by f limit t a b h in (k.at, k.is)

-- ---- one task

apart : (d : ℕ) (r : Row) → ◌≡◌ {A = Judged} (Err d) (Ok r) → ⊥
apart d r e = let z : ◌≡◌ {A = ℕ} 0 1 = cc in omega arith

module _ (olds news : List Task) (i : Task) where
  swept : IsSwept (phase_window olds news i) i.deadline (sweep (phase_window olds news i) i.deadline)
  swept = sweep_is (phase_demand olds news i) i.deadline i.deadline

  at_phase_lem : (x : ℕ) → Unclosed (phase_demand olds news i x) i.deadline → phase_window olds news i x ≡ None
  at_phase_lem x u = no_window (phase_demand olds news i x) i.deadline u

  -- a late task has no row
  not_timely : (k : Kind) (r : Row) → row_by k olds news i ≡ Ok r → LateKind k olds news i → ⊥
  not_timely Completed r e (x, a, b, u) = go (sweep (phase_window olds news i) i.deadline) swept e
    where
      go : (s : Result Worst ℕ) → IsSwept (phase_window olds news i) i.deadline s → completed_row s (steady_window olds i) ≡ Ok r → ⊥
      go (Ok s) h q = let m = h.top x a b in never _ _ m.1 (at_phase_lem x u)
      go (Err y) h q = apart y r q
  not_timely Aborted r e u = apart 0 r (rw (no_window (steady_demand olds i) i.deadline u) at e)
  not_timely New r e (inl u) = apart 0 r (rw (no_window (steady_demand news i) i.deadline u) at e)
  not_timely New r e (inr u) = go (steady_window news i) (rw (no_window (request_demand olds news i) (i.offset + i.deadline) u) at e)
    where
      go : (o : Option ℕ) → new_row i o None ≡ Ok r → ⊥
      go None q = apart 0 r q
      go (Some s) q = apart 1 r q

  -- a task with no row is late, with its detail
  detailed : (k : Kind) (d : ℕ) → row_by k olds news i ≡ Err d → DetailKind k olds news i d
  detailed Completed d e = go (sweep (phase_window olds news i) i.deadline) swept e
    where
      go : (s : Result Worst ℕ) → IsSwept (phase_window olds news i) i.deadline s → completed_row s (steady_window olds i) ≡ Err d → DetailKind Completed olds news i d
      go (Ok s) h q = absurd (apart d _ (sym q))
      go (Err y) h q =
          let w : y ≡ d = cc in
          subst (λ (x : ℕ). DetailKind Completed olds news i x) w
          (h.first, h.within, unclosed (phase_demand olds news i y) i.deadline h.late, λ x a b. let m = h.early x a b in closing (phase_demand olds news i x) i.deadline m.0 m.1)
  detailed Aborted d e = go (steady_window olds i) refl e
    where
      go : (o : Option ℕ) → steady_window olds i ≡ o → aborted_row o ≡ Err d → DetailKind Aborted olds news i d
      go (Some s) p q = absurd (apart d _ (sym q))
      go None p q = let w : d ≡ 0 = cc in (w, unclosed (steady_demand olds i) i.deadline p)
  detailed New d e = go (steady_window news i) (request_window olds news i) refl refl e
    where
      go : (o w : Option ℕ) → steady_window news i ≡ o → request_window olds news i ≡ w → new_row i o w ≡ Err d → DetailKind New olds news i d
      go None w p r q = let e0 : d ≡ 0 = cc in inl (e0, unclosed (steady_demand news i) i.deadline p)
      go (Some s) None p r q =
          let e1 : d ≡ 1 = cc in
          inr (e1, closing (steady_demand news i) i.deadline s p, unclosed (request_demand olds news i) (i.offset + i.deadline) r)
      go (Some s) (Some w) p r q = absurd (apart d _ (sym q))

  late : (k : Kind) (d : ℕ) → DetailKind k olds news i d → LateKind k olds news i
  late Completed x (a, b, u, l) = (x, a, b, u)
  late Aborted d (e, u) = u
  late New d (inl (e, u)) = inl u
  late New d (inr (e, c, u)) = inr u

  -- the detail is one
  judged_late : (k : Kind) (d : ℕ) → DetailKind k olds news i d → row_by k olds news i ≡ Err d
  judged_late Completed x (a, b, u, l) = go (sweep (phase_window olds news i) i.deadline) swept
    where
      go : (s : Result Worst ℕ) → IsSwept (phase_window olds news i) i.deadline s → completed_row s (steady_window olds i) ≡ Err x
      go (Ok s) h = let m = h.top x a b in absurd (never _ _ m.1 (at_phase_lem x u))
      go (Err y) h = ⊎_elim not_after before (le_or_lt x y)
        where
          before : y < x → ◌≡◌ {A = Judged} (Err y) (Err x)
          before q = let m = a_window (phase_demand olds news i y) i.deadline (l y h.first q) in absurd (never _ _ m.1 h.late)

          not_after : x ≤ y → ◌≡◌ {A = Judged} (Err y) (Err x)
          not_after q = ⊎_elim (λ e. ap Err (sym e)) (λ q'. let m = h.early x a q' in absurd (never _ _ m.1 (at_phase_lem x u))) (eq-or-lt_of_le q)
  judged_late Aborted d (e, u) = rw (no_window (steady_demand olds i) i.deadline u) (ap Err (sym e))
  judged_late New d (inl (e, u)) = rw (no_window (steady_demand news i) i.deadline u) (ap Err (sym e))
  judged_late New d (inr (e, c, u)) =
      rw ((a_window (steady_demand news i) i.deadline c).1, no_window (request_demand olds news i) (i.offset + i.deadline) u) (ap Err (sym e))

  -- not late: a row
  timely : (k : Kind) → (LateKind k olds news i → ⊥) → (r : Row) × (row_by k olds news i ≡ Ok r)
  timely k n = go (row_by k olds news i) refl
    where
      go : (j : Judged) → row_by k olds news i ≡ j → (r : Row) × (j ≡ Ok r)
      go (Ok r) e = (r, refl)
      go (Err d) e = absurd (n (late k d (detailed k d e)))

-- ---- a check for each task of one side

-- of the checks at the places below n the first that refuses
record FirstRefused (f : ℕ → Verdict) (n : ℕ) (a : Answer) : Type 0 where
  pub k : ℕ
  pub below : k < n
  pub refuses : f k ≡ Err a
  pub earlier : (j : ℕ) → j < k → f j ≡ Ok tt

module _ (f : ℕ → Verdict) where
  each_passed : (n : ℕ) → ((j : ℕ) → j < n → f j ≡ Ok tt) → first_of (up_to f n) ≡ Ok tt
  unfolding up_to first_of
  each_passed zero h = refl
  each_passed (suc n) h = first_last (up_to f n) (f n) (Ok tt) (each_passed n (λ j l. h j (omega arith))) (h n (omega arith))

  first_refused : (n : ℕ) (a : Answer) → first_of (up_to f n) ≡ Err a → FirstRefused f n a
  unfolding up_to first_of
  first_refused zero a e = let z : ◌≡◌ {A = ℕ} 0 1 = cc in absurd (omega arith)
  first_refused (suc n) a e = go (first_of (up_to f n)) (first_refused n a) refl
    where
      go : (v : Verdict) → (first_of (up_to f n) ≡ Err a → FirstRefused f n a) → first_of (up_to f n) ≡ v → FirstRefused f (suc n) a
      go (Ok tt) again p =
          record { k = n; below = omega arith; refuses = sym (first_last (up_to f n) (f n) (f n) p refl) ∙ e; earlier = λ j l. each_at f n j l p }
      go (Err b) again p =
          let q : Err b ≡ Err a = sym (first_stop (up_to f n) (f n ∷ []) b p) ∙ e in
          let w = again (p ∙ q) in
          record { k = w.k; below = omega (arith, w.below); refuses = w.refuses; earlier = w.earlier }

module _ (olds news xs : List Task) (code side : ℕ) where
  check : ℕ → Verdict
  check k = late_check code side k (row_of olds news (get_or xs k no_task))

  late_refused : (k d : ℕ) → LateBy olds news (get_or xs k no_task) d → check k ≡ Err (answer code side k d)
  unfolding check row_of
  late_refused k d h = let x = get_or xs k no_task in rw (judged_late olds news x (kind_of x) d h)

  timely_passed : (k : ℕ) → (IsLate olds news (get_or xs k no_task) → ⊥) → check k ≡ Ok tt
  unfolding check row_of
  timely_passed k h = let x = get_or xs k no_task in rw (timely olds news x (kind_of x) h).1

  passed_timely : (k : ℕ) → check k ≡ Ok tt → IsLate olds news (get_or xs k no_task) → ⊥
  unfolding check row_of
  passed_timely k e l = go (row_of olds news x) refl e
    where
      x : Task
      x = get_or xs k no_task

      go : (j : Judged) → row_of olds news x ≡ j → late_check code side k j ≡ Ok tt → ⊥
      go (Ok r) p q = not_timely olds news x (kind_of x) r p l
      go (Err d) p q = let z : ◌≡◌ {A = ℕ} 0 1 = cc in omega arith

  refused_late : (k : ℕ) (a : Answer) → check k ≡ Err a → (d : ℕ) × (a ≡ answer code side k d) × LateBy olds news (get_or xs k no_task) d
  unfolding check row_of
  refused_late k a e = go (row_of olds news x) refl e
    where
      x : Task
      x = get_or xs k no_task

      go : (j : Judged) → row_of olds news x ≡ j → late_check code side k j ≡ Err a → (d : ℕ) × (a ≡ answer code side k d) × LateBy olds news x d
      go (Ok r) p q = let z : ◌≡◌ {A = ℕ} 0 1 = cc in absurd (omega arith)
      go (Err d) p q = let w : a ≡ answer code side k d = cc in (d, w, detailed olds news x (kind_of x) d p)

  checks : List Verdict
  checks = up_to check (length xs)

  all_passed : InTime olds news xs → first_of checks ≡ Ok tt
  unfolding checks
  all_passed h = each_passed check (length xs) (λ j l. timely_passed j (h j l))

  all_timely : first_of checks ≡ Ok tt → InTime olds news xs
  unfolding checks
  all_timely e k l = passed_timely k (each_at check (length xs) k l e)

  named_refused : (k d : ℕ) → FirstLate olds news xs k d → first_of checks ≡ Err (answer code side k d)
  unfolding checks
  named_refused k d h =
      each_stop check (length xs) k (answer code side k d) h.place (each_passed check k (λ j l. timely_passed j (h.earlier j l))) (late_refused k d h.late)

  refused_named : (a : Answer) → first_of checks ≡ Err a → (k d : ℕ) × (a ≡ answer code side k d) × FirstLate olds news xs k d
  unfolding checks
  refused_named a e =
      let w = first_refused check (length xs) a e in
      let m = refused_late w.k a w.refuses in
      (w.k, m.0, m.1, record { place = w.below; late = m.2; earlier = λ j l. passed_timely j (w.earlier j l) })

-- ---- the pair

module _ (olds news : List Task) where
  split : late_checks olds news ≡ checks olds news olds 9 0 ++ checks olds news news 10 1
  unfolding checks check
  split = refl

  verdict_told : Told olds news (answer_of (first_of (late_checks olds news)))
  verdict_told = rw split (go (first_of (checks olds news olds 9 0)) refl)
    where
      after : (v : Verdict) → first_of (checks olds news olds 9 0) ≡ Ok tt → first_of (checks olds news news 10 1) ≡ v → Told olds news (answer_of v)
      after (Ok u) p q = in_time (all_timely olds news olds 9 0 p) (all_timely olds news news 10 1 q)
      after (Err a) p q =
          let w = refused_named olds news news 10 1 a q in
          subst (Told olds news) (sym w.2) (new_late w.0 w.1 (all_timely olds news olds 9 0 p) w.3)

      go : (v : Verdict) → first_of (checks olds news olds 9 0) ≡ v → Told olds news (answer_of (first_of (checks olds news olds 9 0 ++ checks olds news news 10 1)))
      go (Ok u) p = rw (first_on _ (checks olds news news 10 1) p) (after (first_of (checks olds news news 10 1)) p refl)
      go (Err a) p =
          let w = refused_named olds news olds 9 0 a p in
          rw (first_stop _ (checks olds news news 10 1) a p) (subst (Told olds news) (sym w.2) (old_late w.0 w.1 w.3))

  told_verdict : (a : Answer) → Told olds news a → answer_of (first_of (late_checks olds news)) ≡ a
  told_verdict a t = rw split (go a t)
    where
      go : (a : Answer) → Told olds news a → answer_of (first_of (checks olds news olds 9 0 ++ checks olds news news 10 1)) ≡ a
      go a (in_time p q) = rw (first_on _ (checks olds news news 10 1) (all_passed olds news olds 9 0 p), all_passed olds news news 10 1 q)
      go a (old_late k d h) = rw (first_stop _ (checks olds news news 10 1) _ (named_refused olds news olds 9 0 k d h))
      go a (new_late k d p h) = rw (first_on _ (checks olds news news 10 1) (all_passed olds news olds 9 0 p), named_refused olds news news 10 1 k d h)

module _
    (old_block new_block report : List ℕ) (m k : ℕ) (olds news : List Task) (old_reads : reading_of 0 old_block ≡ holds m olds)
    (new_reads : reading_of 1 new_block ≡ holds k news) (room : row_size * (length olds + length news) ≤ length report) where
  reply_is : (analyse_of old_block new_block report).reply ≡ answer_of (first_of (late_checks olds news))
  reply_is = rw (analyse_pair old_block new_block report m k olds news old_reads new_reads) (go (first_of (late_checks olds news)) refl)
    where
      go : (v : Verdict) → first_of (late_checks olds news) ≡ v → (pair_of olds news report).reply ≡ answer_of v
      go (Ok u) e = rw (pair_done olds news report room e)
      go (Err a) e = rw (pair_late olds news report a room e)

  -- what the analysis answers, and that nothing else would be right
  pub late_told : Told olds news (analyse_of old_block new_block report).reply
  late_told = rw reply_is (verdict_told olds news)

  pub told_once : (a : Answer) → Told olds news a → (analyse_of old_block new_block report).reply ≡ a
  told_once a t = reply_is ∙ told_verdict olds news a t

  -- late exactly when some window does not close in time
  pub called_late : ((analyse_of old_block new_block report).reply.code ≡ 9) ⊎ ((analyse_of old_block new_block report).reply.code ≡ 10)
      → SomeLate olds news olds ⊎ SomeLate olds news news
  called_late = go (analyse_of old_block new_block report).reply late_told
    where
      go : (a : Answer) → Told olds news a → (a.code ≡ 9) ⊎ (a.code ≡ 10) → SomeLate olds news olds ⊎ SomeLate olds news news
      go a (in_time p q) c = ⊎_elim (λ e. absurd (omega arith)) (λ e. absurd (omega arith)) c
      go a (old_late k d h) c = let x = get_or olds k no_task in inl (k, h.place, late olds news x (kind_of x) d h.late)
      go a (new_late k d p h) c = let x = get_or news k no_task in inr (k, h.place, late olds news x (kind_of x) d h.late)

  pub late_called : SomeLate olds news olds ⊎ SomeLate olds news news
      → ((analyse_of old_block new_block report).reply.code ≡ 9) ⊎ ((analyse_of old_block new_block report).reply.code ≡ 10)
  late_called = go (analyse_of old_block new_block report).reply late_told
    where
      go : (a : Answer) → Told olds news a → SomeLate olds news olds ⊎ SomeLate olds news news → (a.code ≡ 9) ⊎ (a.code ≡ 10)
      go a (in_time p q) c = ⊎_elim (λ w. absurd (p w.0 w.1 w.2)) (λ w. absurd (q w.0 w.1 w.2)) c
      go a (old_late k d h) c = inl refl
      go a (new_late k d p h) c = inr refl
