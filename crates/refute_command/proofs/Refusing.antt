-- What a checked proof shows of a formula and of the sessions it belongs to, and why nothing is said.
use Rattle.std.proofs.Common.{◌≡◌, ℕ, ◌+◌, Bool, List, Option, Some, length, map, sym, subst}
use Rattle.session_log.specs.Text.{ClientSession}
use Rattle.serializability.specs.Formula.{Cnf}
use Rattle.log_definitions.specs.WellFormed.{IsWellFormed}
use Rattle.refutation.specs.Follows.{SatisfiesAll, IsRefuted}
use Rattle.refutation.specs.Standing.{Standing}
use Rattle.refutation.proofs.Units.{satisfied_given}
use Rattle.proof_text.specs.declared.fault.ProofFault.{ProofFault}
use Rattle.proof_checks.specs.Checked.{Given, IsAccepted, IsProofFault, given_to}
use Rattle.cobra_formulas.specs.declared.basis.Basis.{Basis}
use Rattle.cobra_formulas.specs.Formulas.{IsFormulaFrom, IsFaithful}
use Rattle.cobra_answers.specs.Answers.{by_command}
use Rattle.cobra_answers.specs.declared.status.Status.{Status}
use Rattle.cobra_answers.specs.declared.status.Status.TheVariants.{NotSerializable}
use Rattle.cobra_answers.proofs.Telling.{keeps}
use Rattle.refute_command.specs.declared.refusal.Refusal.{Refusal}
use Rattle.refute_command.specs.declared.refusal.Refusal.TheVariants.{Command, Proof}
use Rattle.refute_command.specs.Refuted.{IsShownBy, IsRefutation, IsNotRefuted, IsRefuteRefused, refuted_formula_text, given_by}

pub same_given : (s : Standing) (v : ℕ) (f : Cnf) → s.clauses ≡ map Some f.clauses → v ≡ f.variables → length s.known ≡ f.variables + 1 → given_to s v ≡ given_by f
same_given s v f e n k = λ i. record { clauses = e i; variables = n i; known = k i }

pub shown_by : (proof : List ℕ) (f : Cnf) (s : Standing) (v : ℕ) → s.clauses ≡ map Some f.clauses → v ≡ f.variables → length s.known ≡ f.variables + 1 → IsAccepted (given_to s v) proof → IsRefuted s.clauses → IsShownBy proof f
shown_by proof f s v e n k accepted refuted = record {
  accepted = subst (λ (g : Given). IsAccepted g proof) (same_given s v f e n k) accepted;
  unsatisfiable = λ values s. refuted.none values (subst (SatisfiesAll values) (sym e) (satisfied_given values f.clauses s.each_clause));
}

pub fault_by : (proof : List ℕ) (f : Cnf) (s : Standing) (v : ℕ) (e : ProofFault) → s.clauses ≡ map Some f.clauses → v ≡ f.variables → length s.known ≡ f.variables + 1 → IsProofFault (given_to s v) proof e → IsProofFault (given_by f) proof e
fault_by proof f s v e c n k h = subst (λ (g : Given). IsProofFault g proof e) (same_given s v f c n k) h

pub refutation_of : (plain : Bool) (proof : List ℕ) (ss : List ClientSession) (b : Basis) (f : Cnf) (status : Status) (text : List ℕ) → IsFormulaFrom plain ss b f → IsFaithful ss f → IsShownBy proof f → status ≡ NotSerializable → text ≡ refuted_formula_text → IsRefutation plain proof ss status text
refutation_of plain proof ss b f status text made faithful shown ends told = record {
  formula = f;
  belongs = record { basis = b; made = made };
  shown = shown;
  none = λ order s. (let d = faithful.headline.satisfied_where_some order s in shown.unsatisfiable d.0 d.1);
  ends = ends;
  told = told;
}

pub refused_so : (plain : Bool) (proof log : List ℕ) (ss : List ClientSession) (held : Option (List ℕ)) (r : Refusal) → IsWellFormed log ss → IsNotRefuted plain proof r ss → IsRefuteRefused plain proof log held held r
refused_so plain proof log ss held (Command f) well h = by_command f ss well h (keeps held)
refused_so plain proof log ss held (Proof e) well h = record { sessions = ss; well_formed = well; refused = h; keeps = keeps held }
