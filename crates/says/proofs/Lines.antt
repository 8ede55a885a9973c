-- A text is its first line and the lines behind that.
use Rattle.std.proofs.Common.{◌≡◌, ℕ, suc, ◌+◌, ◌-◌, ◌≤◌, ◌<◌, Bool, true, false, cond, not, eqb, List, [], ◌∷◌, length, take, drop, Option, Some, None, refl, ap, arith, one-add, add-one, length-drop, subst, Result, Ok}
use lib.Seq.{take-length}
use denote.Ref.{Bor, MutBor}
use Rattle.std.specs.Fn.{Mut, Called}
use Rattle.std.specs.Io.KnownBytes.{Appends}
use Rattle.std.specs.List.{onto_first, position, position_or_len}
use borrow.Author.Tests.{ltb-true, ltb-false}
use Rattle.says.specs.Lines.{lines_of, Answers}

-- the place of the first line feed
abbrev end_of : List ℕ → ℕ
end_of text = position_or_len (λ b. eqb b 10) text

line_ends : (text : List ℕ) → end_of text < length text → lines_of text ≡ take (end_of text) text ∷ lines_of (drop (suc (end_of text)) text)
line_ends [] h = absurd (omega arith)
line_ends (b ∷ text) h =
    let P : Bool → Type 0 = λ t. cond (not t) (1 + end_of text) 0 < suc (length text) → cond t ([] ∷ lines_of text) (onto_first b (lines_of text)) ≡ take (cond (not t) (1 + end_of text) 0) (b ∷ text) ∷ lines_of (drop (suc (cond (not t) (1 + end_of text) 0)) (b ∷ text)) in
    let q : (t : Bool) → P t = λ t. elim t as P [ true ↦ λ _. refl | false ↦ λ l. rw one-add (ap (onto_first b) (line_ends text (omega arith))) ] in
    q (eqb b 10) h

line_last : (text : List ℕ) → length text ≤ end_of text → 0 < length text → lines_of text ≡ text ∷ []
line_last [] h l = absurd (omega arith)
line_last (b ∷ []) h l =
    let P : Bool → Type 0 = λ t. 1 ≤ cond (not t) (1 + 0) 0 → cond t ([] ∷ []) (onto_first b []) ≡ (b ∷ []) ∷ [] in
    let q : (t : Bool) → P t = λ t. elim t as P [ true ↦ λ k. absurd (omega arith) | false ↦ λ k. refl ] in
    q (eqb b 10) h
line_last (b ∷ c ∷ text) h l =
    let P : Bool → Type 0 = λ t. suc (length (c ∷ text)) ≤ cond (not t) (1 + end_of (c ∷ text)) 0 → cond t ([] ∷ lines_of (c ∷ text)) (onto_first b (lines_of (c ∷ text))) ≡ (b ∷ c ∷ text) ∷ [] in
    let q : (t : Bool) → P t = λ t. elim t as P [ true ↦ λ k. absurd (omega arith) | false ↦ λ k. ap (onto_first b) (line_last (c ∷ text) (omega arith) (omega arith)) ] in
    q (eqb b 10) h

-- what a search for the first line feed says: where it stands, or that there is none
some_place : (t : Bool) (n i : ℕ) → Some i ≡ cond t (Some n) None → (t ≡ true) × (i ≡ n)
some_place true n i e = (refl, cc)
some_place false n i e = cc

no_place : (t : Bool) (n : ℕ) → None ≡ cond t (Some n) None → t ≡ false
no_place true n e = cc
no_place false n e = refl

pub cut_here : (text : List ℕ) (i : ℕ) → Some i ≡ position (λ b. eqb b 10) text → (i < length text) × (lines_of text ≡ take i text ∷ lines_of (drop (i + 1) text))
cut_here text i e =
    let p = some_place _ (end_of text) i e in
    let h : end_of text < length text = ltb-true _ _ p.0 in
    (rw p.1 h, rw (p.1, add-one) (line_ends text h))

pub cut_nowhere : (text : List ℕ) → None ≡ position (λ b. eqb b 10) text → 0 < length text → lines_of text ≡ text ∷ []
cut_nowhere text e = line_last text (ltb-false _ _ (no_place _ (end_of text) e))

-- the same, with the rest as a slice to the end takes it
pub cut_to_end : (text : List ℕ) (i : ℕ) → Some i ≡ position (λ b. eqb b 10) text
    → (lines_of text ≡ take i text ∷ lines_of (take (length text - (i + 1)) (drop (i + 1) text))) × (length (take (length text - (i + 1)) (drop (i + 1) text)) < length text)
cut_to_end text i e =
    let p = cut_here text i e in
    let h : i < length text = p.0 in
    let whole : take (length text - (i + 1)) (drop (i + 1) text) ≡ drop (i + 1) text = rw (← length-drop (i + 1) text) (take-length _) in
    rw whole (p.1, omega (arith, length-drop (i + 1) text))

-- one line that was answered
pub answered : {W F E : Type 0} {contents : W → Option (List ℕ)} {g : Mut F (MutBor W × (Bor (List ℕ) × Unit {0})) (Result (Unit {0}) E × (MutBor W × Unit {0}))} (f f' : F) (w last : W) (shown : Bor (List ℕ)) (p p' : MutBor W) (r : Result (Unit {0}) E)
    → Appends (contents w) (contents p.now) shown.now → Called g f (p, (shown, tt)) (r, (p', tt)) f' → r ≡ Ok tt → Appends (contents p'.now) (contents last) (10 ∷ []) → Answers contents g (f, w) shown.now (f', last)
answered {g = g} f f' w last shown p p' r a k e b =
    record {
      before = p.now;
      behind = p'.now;
      shown = shown;
      written = a;
      shows = refl;
      called = record { shown = p; shows = refl; left = p'; called = subst (λ x. Called g f (p, (shown, tt)) (x, (p', tt)) f') e k; leaves = refl };
      ended = b;
    }
