-- Laws of decimals: they are std's below 2^64, one digit, one digit more, how many there are.
use Rattle.std.proofs.Common.{◌≡◌, ℕ, zero, suc, ◌+◌, ◌*◌, ◌/◌, ◌%◌, ◌^◌, ◌≤◌, ◌<◌, [], ◌∷◌, ◌++◌, Option, None, Some, IfNone, IfSome, unwrap_or, length, length-append, arith, sym, ap, ◌∙◌, ⊎_elim, lt-ltb, le-ltb}
use Rattle.std.proofs.Math.Nat.{pow-suc}
use Rattle.std.proofs.lemmas.Fmt.{AppendsLastDigit, decimal_from_appends, length-decimal-le, length-decimal-le_succ}
use Rattle.std.specs.Fmt.{decimal as std_decimal}
use Rattle.base.proofs.Search.{le_or_lt}
use Rattle.lines.specs.Line.{digits, decimal}

digits_grow : AppendsLastDigit digits
unfolding digits
digits_grow = record { one = λ k n h. rw (lt-ltb n 10 h); more = λ k n h. rw (le-ltb n 10 h) }

pub decimal_std : (n : ℕ) → n < 2 ^ 64 → decimal n ≡ std_decimal n
unfolding decimal
decimal_std n h = decimal_from_appends digits digits_grow (suc n) n h (omega (arith, length-decimal-le_succ n h))

-- a number of so many digits at most
pub digits_few : (k n : ℕ) → 0 < k → n < 10 ^ k → n < 2 ^ 64 → length (decimal n) ≤ k
digits_few k n p h s = rw (decimal_std n s) (length-decimal-le k n p h s)

pub decimal_one : (n : ℕ) → n < 10 → decimal n ≡ (48 + n) ∷ []
unfolding decimal digits
decimal_one n h = rw (lt-ltb n 10 h)

-- more digits than enough are the same
digits_same : (f g n : ℕ) → n < f → n < g → digits f n ≡ digits g n
digits_same zero g n h k = absurd (omega arith)
digits_same (suc f) zero n h k = absurd (omega arith)
digits_same (suc f) (suc g) n h k =
    ⊎_elim
    (λ b. digits_grow.more f n b ∙ ap (λ l. l ++ ((48 + n % 10) ∷ [])) (digits_same f g (n / 10) (omega arith) (omega arith)) ∙ sym (digits_grow.more g n b))
    (λ s. digits_grow.one f n s ∙ sym (digits_grow.one g n s))
    (le_or_lt 10 n)

-- of every number
pub decimal_step : (n : ℕ) → 10 ≤ n → decimal n ≡ decimal (n / 10) ++ ((48 + n % 10) ∷ [])
unfolding decimal
decimal_step n h = digits_grow.more n n h ∙ ap (λ l. l ++ ((48 + n % 10) ∷ [])) (digits_same n (suc (n / 10)) (n / 10) (omega arith) (omega arith))

pub room_step : (n : ℕ) → 10 ≤ n → length (decimal n) ≡ length (decimal (n / 10)) + 1
room_step n h = rw (decimal_step n h) (simp length-append)

pub decimal_more : (n : ℕ) → 10 ≤ n → n < 2 ^ 64 → decimal n ≡ decimal (n / 10) ++ ((48 + n % 10) ∷ [])
decimal_more n h s = decimal_step n h

pub digits_one : (n : ℕ) → n < 10 → length (decimal n) ≡ 1
digits_one n h = rw (decimal_one n h)

pub digits_more : (n : ℕ) → 10 ≤ n → n < 2 ^ 64 → length (decimal n) ≡ length (decimal (n / 10)) + 1
digits_more n h s = room_step n h

-- how many digits there are, by the power of ten below
digits_by_power : (k n : ℕ) → n < 2 ^ 64 → 10 ^ k ≤ n → n < 10 * 10 ^ k → length (decimal n) ≡ k + 1
digits_by_power zero n s l h = digits_one n h
digits_by_power (suc k) n s l h =
    let e = pow-suc 10 k in
    let p : 1 ≤ 10 ^ k = grind arith in
    omega (arith, digits_more n (omega arith) s, digits_by_power k (n / 10) (omega arith) (omega arith) (omega arith))

-- 0 has a digit as well
pub digits_counted : (n : ℕ) (power : Option ℕ) → n < 2 ^ 64 → IfNone power (n ≡ 0) → IfSome power (λ k. 10 ^ k ≤ n) → IfSome power (λ k. n < 10 * 10 ^ k) → 1 + unwrap_or power 0 ≡ length (decimal n)
digits_counted n None s z l h = rw (z, digits_one 0 (omega arith))
digits_counted n (Some k) s z l h = omega (arith, digits_by_power k n s l h)
