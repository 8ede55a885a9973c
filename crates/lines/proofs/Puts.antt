-- Laws of texts that bytes are put into.
use Rattle.std.proofs.Common.{◌≡◌, ℕ, ◌+◌, ◌/◌, ◌%◌, ◌^◌, ◌≤◌, ◌<◌, List, [], ◌∷◌, ◌++◌, length, length-append, arith, ap, ◌∙◌, ◌⊎◌, ⊎_elim}
use Rattle.lines.specs.declared.Text.{Text}
use Rattle.lines.specs.Puts.{Puts}
use Rattle.lines.specs.Line.{decimal}
use Rattle.lines.proofs.Decimal.{decimal_one, decimal_more}
use Rattle.lines.proofs.Put.{put_more, put_length}

module _ (a b : Text) (s : List ℕ) (done : Puts a b s) where
  pub puts_length : a.at + length s ≤ length a.buf.now → length b.buf.now ≡ length a.buf.now
  puts_length h = ap length done.buf_after ∙ put_length a.buf.now a.at s h

  -- s and then u
  pub puts_more : (c : Text) (u : List ℕ) → a.at ≤ length a.buf.now → Puts b c u → Puts a c (s ++ u)
  puts_more c u h more =
      record {
        same_buf = more.same_buf ∙ done.same_buf;
        at_after = simp length-append (omega (arith, more.at_after, done.at_after));
        buf_after = more.buf_after ∙ rw (done.buf_after, done.at_after) (put_more a.buf.now a.at s u h);
      }

-- the last digit, behind those before it
pub puts_number : (a b c : Text) (n : ℕ) → n < 2 ^ 64 → a.at ≤ length a.buf.now → Puts b c ((48 + n % 10) ∷ []) → (10 ≤ n) × Puts a b (decimal (n / 10)) ⊎ (n < 10) × (b ≡ a) → Puts a c (decimal n)
puts_number a b c n s l p q =
    ⊎_elim
    (λ m. rw (decimal_more n m.0 s) (puts_more a b (decimal (n / 10)) m.1 c ((48 + n % 10) ∷ []) l p))
    (λ o. let e : n % 10 ≡ n = omega (arith, o.0) in rw (decimal_one n o.0, ← e, ← o.1) p)
    q
