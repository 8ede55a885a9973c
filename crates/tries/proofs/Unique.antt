-- Each public function's contract leaves one answer and one content of what is lent.
use mathlib.Core.Path.{◌≡◌, sym, ◌∙◌}
use contract.Lifetimes.{Lfts}
use borrow.Fn.Kinds.{Dens, res_t, ended_of}
use denote.Triple.Clauses.{AtExit}
use Rattle.tries.proofs.number.Reads as number
use Rattle.tries.proofs.number.Kinds as number_kinds
use Rattle.tries.proofs.length_of.Reads as length_of
use Rattle.tries.proofs.length_of.Kinds as length_of_kinds
use Rattle.tries.proofs.letter.Reads as letter
use Rattle.tries.proofs.letter.Kinds as letter_kinds
use Rattle.tries.proofs.room.Reads as room
use Rattle.tries.proofs.room.Kinds as room_kinds
use Rattle.tries.proofs.field.Reads as field
use Rattle.tries.proofs.field.Kinds as field_kinds
use Rattle.tries.proofs.good_list.Reads as good_list
use Rattle.tries.proofs.good_list.Kinds as good_list_kinds
use Rattle.tries.proofs.damage.Reads as damage
use Rattle.tries.proofs.damage.Kinds as damage_kinds
use Rattle.tries.proofs.same_from.Reads as same_from
use Rattle.tries.proofs.same_from.Kinds as same_from_kinds

pub number_unique : (κs : Lfts 1) (a : Dens κs number_kinds.ps) (r r' : (res_t number_kinds.r κs).Denot) (s s' : AtExit (ended_of 1 number_kinds.ps number_kinds.r) κs)
    → number.Post κs a r s → number.Post κs a r' s' → r ≡ r'
number_unique κs a r r' s s' p q = p ∙ sym q

pub length_of_unique : (κs : Lfts 1) (a : Dens κs length_of_kinds.ps) (r r' : (res_t length_of_kinds.r κs).Denot) (s s' : AtExit (ended_of 1 length_of_kinds.ps length_of_kinds.r) κs)
    → length_of.Post κs a r s → length_of.Post κs a r' s' → r ≡ r'
length_of_unique κs a r r' s s' p q = p ∙ sym q

pub letter_unique : (κs : Lfts 1) (a : Dens κs letter_kinds.ps) (r r' : (res_t letter_kinds.r κs).Denot) (s s' : AtExit (ended_of 1 letter_kinds.ps letter_kinds.r) κs)
    → letter.Post κs a r s → letter.Post κs a r' s' → r ≡ r'
letter_unique κs a r r' s s' p q = p ∙ sym q

pub room_unique : (κs : Lfts 1) (a : Dens κs room_kinds.ps) (r r' : (res_t room_kinds.r κs).Denot) (s s' : AtExit (ended_of 1 room_kinds.ps room_kinds.r) κs)
    → room.Post κs a r s → room.Post κs a r' s' → r ≡ r'
room_unique κs a r r' s s' p q = p ∙ sym q

pub field_unique : (κs : Lfts 0) (a : Dens κs field_kinds.ps) (r r' : (res_t field_kinds.r κs).Denot) (s s' : AtExit (ended_of 0 field_kinds.ps field_kinds.r) κs)
    → field.Post κs a r s → field.Post κs a r' s' → r ≡ r'
field_unique κs a r r' s s' p q = p.0 ∙ sym q.0

pub good_list_unique : (κs : Lfts 0) (a : Dens κs good_list_kinds.ps) (r r' : (res_t good_list_kinds.r κs).Denot) (s s' : AtExit (ended_of 0 good_list_kinds.ps good_list_kinds.r) κs)
    → good_list.Post κs a r s → good_list.Post κs a r' s' → r ≡ r'
good_list_unique κs a r r' s s' p q = p ∙ sym q

pub damage_unique : (κs : Lfts 2) (a : Dens κs damage_kinds.ps) (r r' : (res_t damage_kinds.r κs).Denot) (s s' : AtExit (ended_of 2 damage_kinds.ps damage_kinds.r) κs)
    → damage.Post κs a r s → damage.Post κs a r' s' → s.0.now ≡ s'.0.now
damage_unique κs a r r' s s' p q = p ∙ sym q

pub same_from_unique : (κs : Lfts 2) (a : Dens κs same_from_kinds.ps) (r r' : (res_t same_from_kinds.r κs).Denot) (s s' : AtExit (ended_of 2 same_from_kinds.ps same_from_kinds.r) κs)
    → same_from.Post κs a r s → same_from.Post κs a r' s' → r ≡ r'
same_from_unique κs a r r' s s' p q = p ∙ sym q
