-- The order of an assignment, and what a command says of sessions.
use Rattle.cobra_cli.proofs.Prelude.{◌≡◌, ℕ, Bool, List, length, None, Some, refl, sym, subst, ClientSession, Version, Cnf, Satisfies, before, IsDecoded, Decides, IsDecided, Decision, text_of, order_text, poly_refusal, Status, Done, Basis}
use Rattle.cobra_cli.proofs.Prelude.{IsFormulaFrom, IsFormulaOf, IsFaithful, serial_of, IsEncoding, IsAnswerTo, named_by, IsOrderText, IsDecoding, status_of, verdict_text, IsVerdict, IsUndecided, IsDecisionText, IsExplanation}
use Rattle.std.proofs.lemmas.List.FromFn.{length-map-range_with_len}
use Rattle.polygraph.specs.declared.fault.PolyFault.{PolyFault}
use Rattle.polygraph.specs.declared.fault.PolyFault.TheVariants.{TooManyChoices, Memory}
use Rattle.reduction.specs.Outcome.{IsReduceFault}
use Rattle.dimacs.specs.Answer as answer
use Rattle.dimacs.specs.Words.{Item}
use Rattle.dimacs.specs.declared.status.Status as dimacs
use Rattle.call_options.specs.declared.format.Format.{Format}
use Rattle.cobra_answers.specs.declared.reply.Reply.{Reply}

pub assignment_long : (vars : ℕ) (items : List Item) → length (answer.assignment vars items) ≡ vars
assignment_long vars items = length-map-range_with_len _ 1 vars

-- ---- encode and decode
pub encoding_of : (plain : Bool) (ss : List ClientSession) (b : Basis) (f : Cnf) → IsFormulaFrom plain ss b f → IsFaithful ss f → IsEncoding plain ss Done (text_of f)
encoding_of plain ss b f h faithful = record { formula = f; belongs = record { basis = b; made = h }; headline = faithful.headline; ends = refl; told = refl }

pub answer_to : (plain : Bool) (given : List ℕ) (ss : List ClientSession) (f : Cnf) (vars : ℕ) (claimed : dimacs.Status) → vars ≡ f.variables → IsFormulaOf plain ss f → answer.answer_fault vars given ≡ None → answer.status_of given ≡ Some claimed → IsAnswerTo plain given ss claimed f
answer_to plain given ss f vars claimed e b accepted claims =
    record { belongs = b; accepted = subst (λ n. answer.answer_fault n given ≡ None) e accepted; claims = claims }

pub order_text_of : (given : List ℕ) (ss : List ClientSession) (f : Cnf) → IsFaithful ss f → (values : List Bool) → values ≡ named_by given f → Satisfies values f → (order : List ℕ) → IsDecoded f.nodes (before f values) order → (text : List ℕ) → text ≡ order_text ss order → IsOrderText given ss f text
order_text_of given ss f h values named sat order d text told = record {
  satisfies = subst (λ (v : List Bool). Satisfies v f) named sat;
  order = order;
  decoded = subst (λ (v : List Bool). IsDecoded f.nodes (before f v) order) named d;
  serial = serial_of ss f h values order sat d;
  told = told;
}

pub decoding_is : (plain : Bool) (given : List ℕ) (ss : List ClientSession) (status said : Status) (text told : List ℕ) → status ≡ said → text ≡ told → IsDecoding plain given ss said told → IsDecoding plain given ss status text
decoding_is plain given ss status said text told e t h = subst (λ (s : Status). IsDecoding plain given ss s text) (sym e) (subst (λ (l : List ℕ). IsDecoding plain given ss said l) (sym t) h)

-- ---- check
pub verdict_so : (budget : ℕ) (ss : List ClientSession) (d : Decision) (r : Reply) → Decides budget ss d → r.status ≡ status_of d → r.text.items ≡ verdict_text ss d → IsVerdict budget ss r.status r.text.items
verdict_so budget ss d r h ends told = record { decision = d; decides = h; ends = ends; told = told }

pub decided_so : (budget : ℕ) (ss : List ClientSession) (d : Decision) → Decides budget ss d → IsDecided ss d
decided_so budget ss d h = record { budget = budget; decides = h }

pub undecided_so : (ss : List ClientSession) (e : PolyFault) → IsReduceFault ss e → IsUndecided (poly_refusal e) ss
undecided_so ss TooManyChoices h = h
undecided_so ss Memory h = tt

-- ---- explain
pub explanation_so : (budget : ℕ) (v w : Version) (format : Format) (ss : List ClientSession) (d : Decision) (r : Reply) → v ≡ w → Decides budget ss d → r.status ≡ status_of d → IsDecisionText v format ss d r.text.items → IsExplanation budget w format ss r.status r.text.items
explanation_so budget v w format ss d r e h ends told = record {
  decision = d;
  decides = h;
  ends = ends;
  explains = subst (λ u. IsDecisionText u format ss d r.text.items) e told;
}
