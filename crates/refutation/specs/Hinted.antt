-- Whether the clauses that hints name close a step.
use Rattle.std.specs.Prelude.{ℕ, Bool, true, false, List, [], ◌∷◌, Option, Some, None}
use Rattle.std.specs.Option.{option_map}
use Rattle.serializability.specs.declared.literal.Literal.{Literal}
use Rattle.refutation.specs.Known.{left_of, with_true}
use Rattle.refutation.specs.Numbered.{clause_at}

-- by what is left of a clause: nothing closes the step, one literal goes on, and more, or no
-- clause, fails
abbrev pub looked : Option (List Literal) → (Literal → Bool) → Bool
looked None go_on = false
looked (Some []) go_on = true
looked (Some (l ∷ [])) go_on = go_on l
looked (Some (l ∷ m ∷ c)) go_on = false

abbrev pub hinted : List ℕ → List (Option (List Literal)) → List (Option Bool) → Bool
hinted [] clauses known = false
hinted (h ∷ hints) clauses known = looked (option_map (left_of known) (clause_at clauses h))
    (λ l. hinted hints clauses (with_true known l))
