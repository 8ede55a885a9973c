-- What was read is the front of the input, which tells the text of the whole, and that is the text that was written.
use Rattle.std.proofs.Common.{◌≡◌, ℕ, List, take, subst, ap, ◌∙◌, OnOk, IfSome, Option, None, Some, Result, Ok, Err}
use Rattle.std.specs.Io.KnownBytes.{Appends}
use Rattle.render.specs.Printed.{printed}
use Rattle.report.proofs.Enough.{enough}
use Rattle.report.proofs.report.Goals as goal

text_of_front : {T E : Type 0} (r : Result T E) (known : Option (List ℕ)) (P : List ℕ → Type 0) (bs : List ℕ) (m : ℕ)
    → m ≡ 1025 → IfSome known (λ xs. bs ≡ take m xs) → OnOk r (P (printed bs)) → OnOk r (IfSome known (λ xs. P (printed xs)))
text_of_front (Err e) known P bs m n f w = tt
text_of_front (Ok x) None P bs m n f w = tt
text_of_front (Ok x) (Some xs) P bs m n f w = subst P (ap printed (f ∙ ap (λ i. take i xs) n) ∙ enough xs) w

pub returns : goal.returns
returns g c =
    text_of_front c.write_text.result _ (Appends (g.W.Write.contents c.args.to.now) (g.W.Write.contents c.write_text.new.to)) _ _
    c.read_full.auto.buf c.in_ok-n.ensures.front c.write_text.ensures
