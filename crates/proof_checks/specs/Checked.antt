-- What checking a proof says.
use Rattle.std.specs.Prelude.{◌≡◌, ℕ, ◌<◌, ◌≤◌, Bool, true, false, List, [], Option, None, Some, length}
use Rattle.serializability.specs.declared.literal.Literal.{Literal}
use Rattle.refutation.specs.Standing.{Standing}
use Rattle.proof_text.specs.Steps.{lrat_steps}
use Rattle.proof_text.specs.Binary.{drat_steps_in}
use Rattle.proof_text.specs.Forms.{form_of_text}
use Rattle.proof_text.specs.declared.form.Form.{Form}
use Rattle.proof_text.specs.declared.form.Form.TheVariants.{Lrat, Drat, BinaryDrat}
use Rattle.proof_text.specs.declared.fault.ProofFault.{ProofFault}
use Rattle.proof_text.specs.declared.fault.ProofFault.TheVariants.{TooLong, Memory}
use Rattle.proof_text.specs.declared.TheConstants.{MAX_PROOF_BYTES}
use Rattle.proof_checks.specs.Lrat.{lrat_fault}
use Rattle.proof_checks.specs.Drat.{IsDratFault}

-- the clauses of a formula, its variables, which count from 1, and how many numbers of variables
-- the checker knows
pub record Given : Type 0 where
  pub clauses : List (Option (List Literal))
  pub variables : ℕ
  pub known : ℕ

-- the first fault of an LRAT proof; none where it shows that the clauses cannot be satisfied
abbrev pub lrat_fault_of : Given → List ℕ → Option ProofFault
lrat_fault_of g proof = lrat_fault g.known (lrat_steps g.variables proof)
    (record { clauses = g.clauses; added = [] })

-- the first fault of a DRAT proof, in its binary form or as text; none where it shows that
abbrev pub IsDratFaultOf : Bool → Given → List ℕ → Option ProofFault → Type 0
IsDratFaultOf binary g proof fault =
    IsDratFault (drat_steps_in binary g.variables proof) g.clauses fault

-- the first fault of a proof of this form, or none
abbrev pub IsFaultOf : Form → Given → List ℕ → Option ProofFault → Type 0
IsFaultOf Lrat g proof fault = lrat_fault_of g proof ≡ fault
IsFaultOf Drat g proof fault = IsDratFaultOf false g proof fault
IsFaultOf BinaryDrat g proof fault = IsDratFaultOf true g proof fault

-- the same fault, where memory may run out
abbrev pub IsStepsFault : Form → Given → List ℕ → ProofFault → Type 0
IsStepsFault form g proof Memory = Unit {0}
IsStepsFault form g proof f = IsFaultOf form g proof (Some f)

-- what a checker was given
abbrev pub given_to : Standing → ℕ → Given
given_to s variables = record { clauses = s.clauses; variables = variables; known = length s.known }

-- a proof of at most 1 GiB is accepted
pub record IsAccepted (g : Given) (proof : List ℕ) : Type 0 where
  pub within : length proof ≤ MAX_PROOF_BYTES
  pub faultless : IsFaultOf (form_of_text proof) g proof None

-- a proof of at most 1 GiB has this fault
pub record HasFaultWithin (g : Given) (proof : List ℕ) (f : ProofFault) : Type 0 where
  pub within : length proof ≤ MAX_PROOF_BYTES
  pub fault : IsFaultOf (form_of_text proof) g proof (Some f)

-- the fault of a proof: more than 1 GiB exactly where it has them, and each other one within;
-- memory may run out at any
abbrev pub IsProofFault : Given → List ℕ → ProofFault → Type 0
IsProofFault g proof TooLong = MAX_PROOF_BYTES < length proof
IsProofFault g proof Memory = Unit {0}
IsProofFault g proof f = HasFaultWithin g proof f
