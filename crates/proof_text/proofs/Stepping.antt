-- What the definitions of steps say, part by part.
use Rattle.proof_text.proofs.Prelude.{◌≡◌, ℕ, Bool, true, false, List, [], Option, Some, None, option_map, option_and_then, ap, ◌∙◌, then_some, Literal, literal_of, id_of, before_zero, whole, lrat_deletion, lrat_addition, deletion_of}
use Rattle.proof_text.proofs.Prelude.{addition_with, addition_of, drat_clause, clause_of, lrat_with, drat_with, Number, DratAction}
use Rattle.proof_text.specs.declared.lrat.LratAction.TheVariants as lrat

pub deletion_is : (ns : List (Option Number)) (read : Bool) (ids : List (Option ℕ)) → whole (before_zero (id_of false) ns) ≡ then_some read ids → deletion_of ns ≡ lrat_with (then_some read lrat.Delete) [] ids
unfolding deletion_of
deletion_is ns true ids e = ap (option_map lrat_deletion) e
deletion_is ns false ids e = ap (option_map lrat_deletion) e

pub addition_none : (v id : ℕ) (ns : List (Option Number)) → before_zero (literal_of v) ns ≡ None → addition_of v id ns ≡ None
unfolding addition_of
addition_none v id ns e = ap (option_and_then (addition_with id)) e

pub addition_is : (v id : ℕ) (ns ms : List (Option Number)) (literals : List Literal) (read : Bool) (ids : List (Option ℕ)) → before_zero (literal_of v) ns ≡ Some (literals, ms) → whole (before_zero (id_of true) ms) ≡ then_some read ids → addition_of v id ns ≡ lrat_with (then_some read (lrat.Add id)) literals ids
unfolding addition_of addition_with
addition_is v id ns ms literals true ids e h = ap (option_and_then (addition_with id)) e ∙ ap (option_map (lrat_addition id literals)) h
addition_is v id ns ms literals false ids e h = ap (option_and_then (addition_with id)) e ∙ ap (option_map (lrat_addition id literals)) h

pub drat_is : (v : ℕ) (action : DratAction) (ns : List (Option Number)) (read : Bool) (literals : List Literal) → whole (before_zero (literal_of v) ns) ≡ then_some read literals → clause_of v action ns ≡ drat_with (then_some read action) literals
unfolding clause_of
drat_is v action ns true literals e = ap (option_map (drat_clause action)) e
drat_is v action ns false literals e = ap (option_map (drat_clause action)) e
