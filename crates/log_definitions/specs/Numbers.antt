-- A log with its keys numbered, in the order of their first appearance.
use Rattle.std.specs.Prelude.{◌≡◌, ℕ, not, List, length, map, Option, Some, None}
use Rattle.std.specs.List.{filter, position_or_len, AllByRecursion}
use Rattle.std.specs.Str.{bytes_eq}
use Rattle.session_log.specs.Moments.{is_earlier}
use Rattle.session_log.specs.Text.{ClientSession, IsLegal}
use Rattle.session_log.specs.declared.session.Op.{Op}
use Rattle.session_log.specs.declared.session.Op.TheVariants as op
use Rattle.serializability.specs.declared.event.Event.{Event}
use Rattle.serializability.specs.declared.event.Event.TheVariants.{Read, Write}
use Rattle.serializability.specs.declared.anomaly.Anomaly.{Anomaly}
use Rattle.serializability.specs.Log.{Log}
use Rattle.serializability.specs.Formula.{Cnf}
use Rattle.serializability.specs.Plain.{plain, contradiction}
use Rattle.serializability.specs.Anomalies.{anomaly_of}
use Rattle.log_definitions.specs.Unknown.{is_committed, txns_in, resolved}
use Rattle.log_definitions.specs.WellFormed.{keys_in, list_fault}
use Rattle.log_definitions.specs.Serial.{committed_in, session_of, ops_of, begun_of, ended_of}

-- the number of a key among these
abbrev pub number_in : List (List ℕ) → List ℕ → ℕ
number_in keys key = position_or_len (bytes_eq key) keys

abbrev pub event_of : List (List ℕ) → Op → Event
event_of keys (op.Read key wid) = Read (number_in keys key) wid
event_of keys (op.Write key wid) = Write (number_in keys key) wid

abbrev pub events_of : List (List ℕ) → List Op → List Event
events_of keys ops = map (event_of keys) ops

-- the operations of each transaction that counts as aborted
abbrev pub aborted_in : List ClientSession → List (List Op)
aborted_in ss = map (λ t. t.ops) (filter (λ t. not (is_committed t)) (txns_in (resolved ss)))

-- the log of these sessions by its nodes
unfoldable pub log_of : List ClientSession → Log
log_of ss = record {
  nodes = length (committed_in ss);
  keys = length (keys_in ss);
  session = session_of ss;
  ops = λ v. events_of (keys_in ss) (ops_of ss v);
  earlier = λ u v. is_earlier (ended_of ss u) (begun_of ss v);
  aborted = map (events_of (keys_in ss)) (aborted_in ss);
}

-- Sessions that are those of a well-formed log, but for the size of its text. That they have no
-- fault from line 1 on is that they have none from any line (the law fault_from_any_line), so that
-- this holds of the sessions of each version.
pub record IsWellFormedList (ss : List ClientSession) : Type 0 where
  pub legal : AllByRecursion IsLegal ss
  pub sessions : list_fault 1 ss ≡ None

-- the plain formula of a log without an anomaly, and else the contradiction
abbrev pub formula_where : Option Anomaly → Log → Cnf
formula_where None log = plain log
formula_where (Some _) log = contradiction

unfoldable pub plain_answer : List ClientSession → Cnf
plain_answer ss = formula_where (anomaly_of (log_of ss)) (log_of ss)
