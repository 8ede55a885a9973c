-- Laws of the printed lines: one task more, how long they get, and what writing them does.
use Rattle.std.proofs.Common.{◌≡◌, Ok, Err, ℕ, zero, suc, ◌+◌, ◌*◌, ◌-◌, ◌≤◌, ◌<◌, List, [], ◌∷◌, ◌++◌, length, get_or, take, drop, length-append, append_assoc, refl, sym, ap, subst, ◌∙◌, ⊎_elim, arith, add-one, add-suc, add-zero, eqb, drop-drop}
use Rattle.std.proofs.lemmas.List.{drop_more, drop_all, take_rest}
use Rattle.std.specs.Simd.{first_chunks}
use Rattle.base.proofs.Search.{either}
use Rattle.lines.specs.Put.{put}
use Rattle.lines.specs.Line.{decimal, spaced, rest_of, line_of}
use Rattle.lines.specs.Words.{change_word, change_line, letter_at}
use Rattle.lines.proofs.Put.{put_more}
use Rattle.lines.proofs.Decimal.{digits_few}
use Rattle.lines.proofs.Line.{line_some}
use Rattle.block.specs.declared.Task.{Task}
use Rattle.block.specs.declared.Answer.{Answer}
use Rattle.block.specs.declared.Loaded.{Loaded}
use Rattle.block.specs.Checks.{no_task}
use Rattle.block.specs.Block.{Reading, holds, spoilt, reading_of, table_of, listed, loaded, loaded_of}
use Rattle.block.specs.Legal.{Tabled}
use Rattle.block.proofs.Reading.{reading_legal}
use Rattle.block.proofs.Tables.{table_listed, table_tabled}
use Rattle.rows.specs.Rows.{row_size}
use Rattle.pair.specs.Verdict.{verdict_of}
use Rattle.pair.specs.Analysis.{Analysis}
use Rattle.render.specs.Printed.{old_block, new_block, found, mode_held, tasks_held, refused_word, refused_line, task_line, row_part, task_lines, done_lines, lines_of, pair_lines, printed, most_line}

-- ---- the tasks' lines

row_from : (report : List ℕ) (n j : ℕ) → row_part (drop (row_size * n) report) j ≡ row_part report (n + j)
row_from report n j =
    let w : row_size * j + row_size - row_size * j ≡ row_size = omega arith in
    let w' : row_size * (n + j) + row_size - row_size * (n + j) ≡ row_size = omega arith in
    let e : row_size * n + row_size * j ≡ row_size * (n + j) = omega arith in
    rw (drop-drop (row_size * j) (row_size * n) report, w, w', e) refl

-- the numbers from the row of the first task on are rows as well
pub lines_from : (report : List ℕ) (n j : ℕ) (xs : List Task) → task_lines (drop (row_size * n) report) j xs ≡ task_lines report (n + j) xs
unfolding task_lines
lines_from report n j [] = refl
lines_from report n j (x ∷ xs) = rw (row_from report n j, lines_from report n (suc j) xs) (simp add-suc)

-- a row by its place among the rows
pub row_at : (report : List ℕ) (n k : ℕ) (d : List ℕ) → k < n → get_or (first_chunks row_size n report) k d ≡ row_part report k
row_at report zero k d h = absurd (omega arith)
row_at report (suc n) zero d h = refl
row_at report (suc n) (suc k) d h = row_at (drop row_size report) n k d (omega arith) ∙ row_from report 1 k ∙ (let e : 1 + k ≡ suc k = omega arith in ap (row_part report) e)

-- from task k on: its line, and the lines from the next one on
pub lines_more : (report : List ℕ) (xs : List Task) (k : ℕ) → k < length xs → task_lines report k (drop k xs) ≡ task_line (get_or xs k no_task) (row_part report k) ++ task_lines report (k + 1) (drop (k + 1) xs)
unfolding task_lines
lines_more report xs k h = rw (drop_more xs k no_task h, add-one)

-- a turn of the loop over the tasks: task k's line is put, and the lines from the next task on remain
module _ (numbers : List ℕ) (xs : List Task) (k : ℕ) (t t' : List ℕ) (end end' : ℕ) (x : Task) (row : List ℕ) (h : k < length xs) (e : x ≡ get_or xs k no_task) (f : row ≡ row_part numbers k) where
  pub length_turn : end' ≡ end + length (task_line x row) → end' + length (task_lines numbers (k + 1) (drop (k + 1) xs)) ≡ end + length (task_lines numbers k (drop k xs))
  length_turn m = rw (m, e, f, lines_more numbers xs k h) (simp length-append (omega arith))

  pub put_turn : end ≤ length t → end' ≡ end + length (task_line x row) → t' ≡ put t end (task_line x row) → put t' end' (task_lines numbers (k + 1) (drop (k + 1) xs)) ≡ put t end (task_lines numbers k (drop k xs))
  put_turn l m q = rw (q, m, put_more t end (task_line x row) (task_lines numbers (k + 1) (drop (k + 1) xs)) l, e, f, lines_more numbers xs k h) refl

-- and no line remains behind the last task
pub lines_end : (numbers : List ℕ) (xs : List Task) (k : ℕ) → length xs ≤ k → task_lines numbers k (drop k xs) ≡ []
unfolding task_lines
lines_end numbers xs k h = rw (drop_all k xs h)

-- ---- how long the lines get

five_digits : (n : ℕ) → n < 65536 → length (decimal n) ≤ 5
five_digits n h = digits_few 5 n (omega arith) (omega arith) (omega arith)

ten_digits : (n : ℕ) → n < 4294967296 → length (decimal n) ≤ 10
ten_digits n h = digits_few 10 n (omega arith) (omega arith) (omega arith)

three : (row : List ℕ) → length row ≡ row_size → row ≡ get_or row 0 0 ∷ get_or row 1 0 ∷ get_or row 2 0 ∷ []
three [] h = absurd (omega arith)
three (a ∷ []) h = absurd (omega arith)
three (a ∷ b ∷ []) h = absurd (omega arith)
three (a ∷ b ∷ c ∷ []) h = refl
three (a ∷ b ∷ c ∷ d ∷ l) h = absurd (omega arith)

-- a letter, a number of at most five digits, three numbers of at most ten
four_room : (letter n a b c : ℕ) → n < 65536 → a < 4294967296 → b < 4294967296 → c < 4294967296 → length (line_of (letter ∷ []) (n ∷ a ∷ b ∷ c ∷ [])) ≤ most_line
unfolding line_of rest_of spaced
four_room letter n a b c hn ha hb hc = simp length-append (omega (arith, five_digits n hn, ten_digits a ha, ten_digits b hb, ten_digits c hc))

module _ (x : Task) (row : List ℕ) (h : length row ≡ row_size) where
  pub task_line_lem : (letter n a b c : ℕ) → letter ≡ letter_at x.kind → n ≡ x.number → a ≡ get_or row 0 0 → b ≡ get_or row 1 0 → c ≡ get_or row 2 0 → line_of (letter ∷ []) (n ∷ a ∷ b ∷ c ∷ []) ≡ task_line x row
  unfolding task_line
  task_line_lem letter n a b c l m p q r = rw (l, m, p, q, r, ← three row h) refl

  pub task_room : x.number < 65536 → ((i : ℕ) → get_or row i 0 < 4294967296) → length (task_line x row) ≤ most_line
  task_room m p = rw (← task_line_lem (letter_at x.kind) x.number (get_or row 0 0) (get_or row 1 0) (get_or row 2 0) refl refl refl refl refl) (four_room (letter_at x.kind) x.number (get_or row 0 0) (get_or row 1 0) (get_or row 2 0) m (p 0) (p 1) (p 2))

pub refused_room : (a : Answer) → a.code < 4294967296 → a.side < 4294967296 → a.«record» < 4294967296 → a.detail < 4294967296 → length (refused_line a) ≤ 52
unfolding refused_line line_of rest_of spaced
refused_room a hc hs hr hd = simp length-append (omega (arith, ten_digits a.code hc, ten_digits a.side hs, ten_digits a.«record» hr, ten_digits a.detail hd))

-- ---- the whole text

module _ (a b : ℕ) (olds news : List Task) (report : List ℕ) where
  pub done_long : length (done_lines a b olds news report) ≡ length (change_line a b) + length (task_lines report 0 olds) + length (task_lines report (length olds) news)
  unfolding done_lines
  done_long = simp length-append (omega arith)

  -- three puts, one behind the other, are the text
  pub done_built : (t t₁ t₂ t₃ : List ℕ) (first middle : ℕ)
      → t₁ ≡ put t 0 (change_line a b) → first ≡ 0 + length (change_line a b)
      → t₂ ≡ put t₁ first (task_lines report 0 olds) → middle ≡ first + length (task_lines report 0 olds)
      → t₃ ≡ put t₂ middle (task_lines report (length olds) news) → t₃ ≡ put t 0 (done_lines a b olds news report)
  unfolding done_lines
  done_built t t₁ t₂ t₃ first middle e₁ f e₂ m e₃ =
      let p : t₂ ≡ put t 0 (change_line a b ++ task_lines report 0 olds) = e₂ ∙ rw (e₁, f) (put_more t 0 (change_line a b) (task_lines report 0 olds) (omega arith)) in
      let k : middle ≡ 0 + length (change_line a b ++ task_lines report 0 olds) = simp length-append (omega arith) in
      e₃
      ∙ rw (p, k) (put_more t 0 (change_line a b ++ task_lines report 0 olds) (task_lines report (length olds) news) (omega arith))
      ∙ ap (put t 0) (append_assoc (change_line a b) (task_lines report 0 olds) (task_lines report (length olds) news))

-- the rows of the new tasks stand behind those of the old
pub news_lines : (report : List ℕ) (n : ℕ) (olds news : List Task) → length olds ≡ n
    → task_lines (take (length report - row_size * n) (drop (row_size * n) report)) 0 news ≡ task_lines report (length olds) news
news_lines report n olds news e = rw (take_rest report (row_size * n), lines_from report n 0 news, add-zero, e) refl

-- ---- what is loaded of a block

module _ (side : ℕ) (b : List ℕ) where
  pub load_spoilt : (a : Answer) → Err a ≡ loaded_of side b → reading_of side b ≡ spoilt a
  unfolding loaded_of
  load_spoilt a e = go (reading_of side b) e
    where
      go : (r : Reading) → Err a ≡ loaded r → r ≡ spoilt a
      go (spoilt c) q = cc
      go (holds m xs) q = let z : ◌≡◌ {A = ℕ} 0 1 = cc in absurd (omega arith)

  module _ (l : Loaded) (is : Ok l ≡ loaded_of side b) where
    pub load_holds : reading_of side b ≡ holds l.mode (listed l.table)
    unfolding loaded_of
    load_holds = go (reading_of side b) is
      where
        go : (r : Reading) → Ok l ≡ loaded r → r ≡ holds l.mode (listed l.table)
        go (spoilt c) q = let z : ◌≡◌ {A = ℕ} 0 1 = cc in absurd (omega arith)
        go (holds m xs) q =
            let e : ◌≡◌ {A = Loaded} (record { mode = m; table = table_of xs }) l = cc in
            subst (λ (k : Loaded). holds m xs ≡ holds k.mode (listed k.table)) e (ap (holds m) (sym (table_listed xs)))

    pub load_tabled : Tabled side l.table
    unfolding loaded_of
    load_tabled = go (reading_of side b) refl is
      where
        go : (r : Reading) → reading_of side b ≡ r → Ok l ≡ loaded r → Tabled side l.table
        go (spoilt c) p q = let z : ◌≡◌ {A = ℕ} 0 1 = cc in absurd (omega arith)
        go (holds m xs) p q =
            let e : ◌≡◌ {A = Loaded} (record { mode = m; table = table_of xs }) l = cc in
            subst (λ (k : Loaded). Tabled side k.table) e (table_tabled side xs (reading_legal side m b xs p))

-- ---- what is printed of two blocks, by the verdict of their analysis

module _ (old new : List ℕ) where
  pub refusal_lines : (a : Answer) → Err a ≡ verdict_of (found old new).reply → refused_line a ≡ pair_lines old new
  unfolding pair_lines lines_of
  refusal_lines a e = go (found old new) e
    where
      go : (s : Analysis) → Err a ≡ verdict_of s.reply → refused_line a ≡ lines_of s (reading_of 0 old) (reading_of 1 new)
      go s p =
          ⊎_elim
          (λ t. let z : Err a ≡ Ok tt = rw t at p in cc)
          (λ f. let z : Err a ≡ Err s.reply = rw f at p in rw f (let q : a ≡ s.reply = cc in ap refused_line q))
          (either (eqb s.reply.code 0))

  pub change_lines : (m k : ℕ) (olds news : List Task) → reading_of 0 old ≡ holds m olds → reading_of 1 new ≡ holds k news → (report : List ℕ)
      → Ok tt ≡ verdict_of (found old new).reply → report ≡ (found old new).report → pair_lines old new ≡ done_lines m k olds news report
  unfolding pair_lines lines_of mode_held tasks_held
  change_lines m k olds news p q report e r = rw (p, q, r) (go (found old new) e)
    where
      go : (s : Analysis) → Ok tt ≡ verdict_of s.reply → lines_of s (holds m olds) (holds k news) ≡ done_lines m k olds news s.report
      go s z =
          ⊎_elim
          (λ t. rw t refl)
          (λ f. let o : Ok tt ≡ Err s.reply = rw f at z in cc)
          (either (eqb s.reply.code 0))

-- no text is empty, so that the answer 0 says that there was too little room
pub printed_some : (input : List ℕ) → 1 ≤ length (printed input)
unfolding printed pair_lines lines_of done_lines change_line refused_line
printed_some input =
    ⊎_elim
    (λ e. rw e (simp length-append (omega (arith, line_some change_word (mode_held (reading_of 0 (old_block input)) ∷ mode_held (reading_of 1 (new_block input)) ∷ [])))))
    (λ e. rw e (line_some refused_word _))
    (either (eqb (found (old_block input) (new_block input)).reply.code 0))
