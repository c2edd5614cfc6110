-- What `encode`, `decode`, `verify` and `stats` say of sessions, and why they refuse.
use Rattle.std.specs.Prelude.{◌≡◌, ℕ, List, codes, None, Some, Bool, true, false}
use Rattle.session_log.specs.Text.{ClientSession}
use Rattle.session_log.specs.declared.version.Version.{Version}
use Rattle.serializability.specs.declared.literal.Literal.{Literal}
use Rattle.serializability.specs.Formula.{Cnf, Satisfies}
use Rattle.serializability.specs.Decoded.{before, IsDecoded}
use Rattle.log_definitions.specs.Serial.{IsSerialOrder}
use Rattle.log_definitions.specs.Numbers.{log_of}
use Rattle.session_history.specs.Tables.{name_in}
use Rattle.order_cnf.specs.Data.{IsFirstFalse}
use Rattle.dimacs.specs.Text.{text_of}
use Rattle.dimacs.specs.declared.answer.AnswerFault.{AnswerFault}
use Rattle.dimacs.specs.declared.status.Status as dimacs
use Rattle.dimacs.specs.declared.status.Status.TheVariants as claim
use Rattle.dimacs.specs.Answer as answer
use Rattle.order_text.specs.Text.{order_text, AreNodes}
use Rattle.order_text.specs.Faults as listing
use Rattle.order_text.specs.declared.fault.OrderFault.TheVariants as listing_fault
use Rattle.decode_order.specs.declared.fault.ReplayFault.TheVariants.{NotAPermutation, SessionOrder, MomentOrder, ReadMismatch}
use Rattle.decode_order.specs.Replaying.{replay_fault}
use Rattle.cobra_formulas.specs.declared.basis.Basis.{Basis}
use Rattle.cobra_formulas.specs.Formulas.{IsFormulaFrom, IsFormulaOf, IsFormulaFault, IsHeadline}
use Rattle.cobra_cli.specs.Statistics.{stats_text}
use Rattle.cobra_answers.specs.declared.status.Status.{Status}
use Rattle.cobra_answers.specs.declared.status.Status.TheVariants.{Done, Unknown}
use Rattle.cobra_answers.specs.declared.fault.Fault.{Fault}
use Rattle.cobra_answers.specs.declared.fault.Fault.TheVariants as fault

-- the sessions have no formula, with `--plain` or without it, for this reason
abbrev pub HasNoFormula : Bool → Fault → List ClientSession → Type 0
HasNoFormula plain (fault.Formula e) ss = IsFormulaFault plain ss e
HasNoFormula plain fault.Memory ss = Unit {0}
HasNoFormula plain _ ss = ⊥

-- ---- encode

-- the text of the formula that belongs to the sessions
pub record IsEncoding (plain : Bool) (ss : List ClientSession) (status : Status)
    (text : List ℕ) : Type 0 where
  pub formula : Cnf
  pub belongs : IsFormulaOf plain ss formula
  pub headline : IsHeadline ss formula
  pub ends : status ≡ Done
  pub told : text ≡ text_of formula

-- ---- decode
abbrev pub unchecked_text : List ℕ
unchecked_text = codes "unsatisfiable claimed, not checked\n"

abbrev pub unknown_text : List ℕ
unknown_text = codes "unknown\n"

-- the formula belongs to the sessions; as an answer for it the given one has no fault, and it
-- claims this
pub record IsAnswerTo (plain : Bool) (given : List ℕ) (ss : List ClientSession)
    (claimed : dimacs.Status) (f : Cnf) : Type 0 where
  pub belongs : IsFormulaOf plain ss f
  pub accepted : answer.answer_fault f.variables given ≡ None
  pub claims : answer.status_of given ≡ Some claimed

-- the assignment that an answer names for a formula
abbrev pub named_by : List ℕ → Cnf → List Bool
named_by given f = answer.assignment_of f.variables given

-- the text of the order that the answer's assignment stands for, which satisfies the formula; the
-- order is serial
pub record IsOrderText (given : List ℕ) (ss : List ClientSession) (f : Cnf)
    (text : List ℕ) : Type 0 where
  pub satisfies : Satisfies (named_by given f) f
  pub order : List ℕ
  pub decoded : IsDecoded f.nodes (before f (named_by given f)) order
  pub serial : IsSerialOrder ss order
  pub told : text ≡ order_text ss order

-- an assignment is refused for the first clause that it makes false, or for want of memory
abbrev pub IsAssignmentRefused : List Bool → List (List Literal) → Fault → Type 0
IsAssignmentRefused values clauses (fault.NotAModel k) = IsFirstFalse values clauses k
IsAssignmentRefused values clauses fault.Memory = Unit {0}
IsAssignmentRefused values clauses _ = ⊥

-- by what the answer claims
pub data IsDecoding (plain : Bool) (given : List ℕ) (ss : List ClientSession) : Status → List ℕ
    → Type 0 where
  model : (f : Cnf) → IsAnswerTo plain given ss claim.Satisfiable f → (text : List ℕ)
      → IsOrderText given ss f text → IsDecoding plain given ss Done text
  unsatisfiable : (f : Cnf) → IsAnswerTo plain given ss claim.Unsatisfiable f
      → IsDecoding plain given ss Unknown unchecked_text
  unknown : (f : Cnf) → IsAnswerTo plain given ss claim.Unknown f
      → IsDecoding plain given ss Unknown unknown_text

-- the sessions have a formula, and as an answer for it the given one has this fault
pub record IsAnswerRefused (plain : Bool) (given : List ℕ) (ss : List ClientSession)
    (e : AnswerFault) : Type 0 where
  pub formula : Cnf
  pub belongs : IsFormulaOf plain ss formula
  pub refused : answer.IsFault e (answer.answer_fault formula.variables given)

-- the answer has no fault and names an assignment, and clause k of the formula is the first that
-- this makes false
pub record IsModelRefused (plain : Bool) (given : List ℕ) (ss : List ClientSession)
    (k : ℕ) : Type 0 where
  pub formula : Cnf
  pub names : IsAnswerTo plain given ss claim.Satisfiable formula
  pub first_false : IsFirstFalse (named_by given formula) formula.clauses k

abbrev pub IsNotDecoded : Bool → List ℕ → Fault → List ClientSession → Type 0
IsNotDecoded plain given (fault.Formula e) ss = IsFormulaFault plain ss e
IsNotDecoded plain given (fault.Answer e) ss = IsAnswerRefused plain given ss e
IsNotDecoded plain given (fault.NotAModel k) ss = IsModelRefused plain given ss k
IsNotDecoded plain given fault.Memory ss = Unit {0}
IsNotDecoded plain given _ ss = ⊥

-- ---- verify
abbrev pub accepted_text : List ℕ
accepted_text = codes "accepted\n"

-- the order text has no fault, and lists these nodes
pub record IsListed (given : List ℕ) (ss : List ClientSession) (order : List ℕ) : Type 0 where
  pub accepted : listing.order_fault ss given ≡ None
  pub nodes : AreNodes ss order
  pub listed : given ≡ order_text ss order

-- the order text lists a serial order
pub record IsVerified (given : List ℕ) (ss : List ClientSession) (status : Status)
    (text : List ℕ) : Type 0 where
  pub order : List ℕ
  pub listed : IsListed given ss order
  pub serial : IsSerialOrder ss order
  pub ends : status ≡ Done
  pub told : text ≡ accepted_text

-- what a refused replay of the order is told as
abbrev pub IsRefusal : List ClientSession → List ℕ → Fault → Type 0
IsRefusal ss order fault.NotAPermutation = replay_fault (log_of ss) order ≡ Some NotAPermutation
IsRefusal ss order (fault.SessionOrder session place) =
    (v : ℕ) × ((replay_fault (log_of ss) order ≡ Some (SessionOrder v))
    × (name_in ss v ≡ (session, place)))
IsRefusal ss order (fault.MomentOrder session place) =
    (v : ℕ) × ((replay_fault (log_of ss) order ≡ Some (MomentOrder v))
    × (name_in ss v ≡ (session, place)))
IsRefusal ss order (fault.ReadMismatch session place op) =
    (v : ℕ) × ((replay_fault (log_of ss) order ≡ Some (ReadMismatch v op))
    × (name_in ss v ≡ (session, place)))
IsRefusal ss order fault.Memory = Unit {0}
IsRefusal ss order _ = ⊥

-- the order text has no fault, and replay refuses the order that it lists so
pub record IsReplayRefused (given : List ℕ) (ss : List ClientSession) (f : Fault) : Type 0 where
  pub order : List ℕ
  pub listed : IsListed given ss order
  pub refused : IsRefusal ss order f

abbrev pub IsNotVerified : List ℕ → Fault → List ClientSession → Type 0
IsNotVerified given (fault.Order e) ss = listing.IsOrderFault e (listing.order_fault ss given)
IsNotVerified given f ss = IsReplayRefused given ss f

-- want of memory, which may come in place of any other refusal
abbrev pub is_memory : Fault → Bool
is_memory fault.Memory = true
is_memory (fault.Order listing_fault.Memory) = true
is_memory _ = false

-- ---- stats

-- the counts of the sessions of a log of this version, of what their formula is made from, and of
-- the formula that belongs to them
pub record IsCounting (plain : Bool) (v : Version) (ss : List ClientSession) (status : Status)
    (text : List ℕ) : Type 0 where
  pub basis : Basis
  pub formula : Cnf
  pub made : IsFormulaFrom plain ss basis formula
  pub ends : status ≡ Done
  pub told : text ≡ stats_text v ss basis formula
