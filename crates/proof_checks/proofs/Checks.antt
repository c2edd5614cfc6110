-- What the forms of proofs have in common.
use Rattle.proof_checks.proofs.Prelude.{◌≡◌, ℕ, ◌≤◌, Bool, false, if◌then◌else◌, List, Option, Some, None, length, subst, list_any, Literal, NoEmptyClause, Given, IsFaultOf, HasFaultWithin, is_empty_clause, end_fault}
use Rattle.proof_text.specs.Forms.{form_of_text}
use Rattle.proof_text.specs.declared.TheConstants.{MAX_PROOF_BYTES}
use Rattle.proof_text.specs.declared.form.Form.{Form}

-- the end of a proof, where the empty clause stands, and where it does not
ends_so : (form : Form) (g : Given) (proof : List ℕ) (cs : List (Option (List Literal))) (b : Bool) → IsFaultOf form g proof (end_fault cs) → list_any is_empty_clause cs ≡ b → IsFaultOf form g proof (if b then None else Some NoEmptyClause)
ends_so form g proof cs b h e = subst (λ b. IsFaultOf form g proof (if b then None else Some NoEmptyClause)) e h

pub no_empty_clause : (g : Given) (proof : List ℕ) (cs : List (Option (List Literal))) → length proof ≤ MAX_PROOF_BYTES → IsFaultOf (form_of_text proof) g proof (end_fault cs) → list_any is_empty_clause cs ≡ false → HasFaultWithin g proof NoEmptyClause
no_empty_clause g proof cs le h e = record { within = le; fault = ends_so (form_of_text proof) g proof cs false h e }
