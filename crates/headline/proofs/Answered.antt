-- The formula of a log, with or without an anomaly.
use Rattle.std.proofs.Common.{◌≡◌, ℕ, Bool, List, Option, None, Some, refl}
use Rattle.session_log.specs.Text.{ClientSession}
use Rattle.serializability.specs.declared.anomaly.Anomaly.{Anomaly}
use Rattle.serializability.specs.Reads.{IsClean}
use Rattle.serializability.specs.Formula.{Satisfies}
use Rattle.serializability.specs.Decoded.{before, IsDecoded}
use Rattle.serializability.specs.Plain.{plain}
use Rattle.serializability.specs.Anomalies.{anomaly_of}
use Rattle.serializability.proofs.PlainLaws.{plain_where_serial, plain_serial, plain_decodes, contradicted}
use Rattle.log_definitions.specs.Serial.{IsSerialOrder, IsSomeOrder}
use Rattle.log_definitions.specs.Numbers.{IsWellFormedList, log_of, formula_where, plain_answer}
use Rattle.log_definitions.proofs.Numbered.{numbered}
use Rattle.log_definitions.proofs.OnlyTaken.{serial_where_some}
use Rattle.log_definitions.proofs.Renaming.{serial_numbered, serial_by_keys}
use Rattle.anomaly_laws.proofs.Clean.{clean_from_none}
use Rattle.anomaly_laws.proofs.Serial.{no_order}

pub clean_log : (ss : List ClientSession) → IsWellFormedList ss → anomaly_of (log_of ss) ≡ None → IsClean (log_of ss)
clean_log ss h e = clean_from_none (log_of ss) (numbered ss h) e

pub none_serial : (ss : List ClientSession) → IsWellFormedList ss → (a : Anomaly) → anomaly_of (log_of ss) ≡ Some a → (order : List ℕ) → IsSerialOrder ss order → ⊥
none_serial ss h a e order s = no_order (log_of ss) (numbered ss h) a e order (serial_numbered ss order s)

pub none_of_some : (ss : List ClientSession) → IsWellFormedList ss → (a : Anomaly) → anomaly_of (log_of ss) ≡ Some a → (order : List ℕ) → IsSomeOrder ss order → ⊥
none_of_some ss h a e order s = let found = serial_where_some ss h (order, s) in none_serial ss h a e found.0 found.1

-- ---- by the anomaly that is reported
some_for : (ss : List ClientSession) → IsWellFormedList ss → (order : List ℕ) → IsSerialOrder ss order → (o : Option Anomaly) → anomaly_of (log_of ss) ≡ o → (values : List Bool) × Satisfies values (formula_where o (log_of ss))
some_for ss h order s None e = plain_where_serial (log_of ss) (clean_log ss h e) order (serial_numbered ss order s)
some_for ss h order s (Some a) e = absurd (none_serial ss h a e order s)

each_for : (ss : List ClientSession) → IsWellFormedList ss → (values : List Bool) (o : Option Anomaly) → anomaly_of (log_of ss) ≡ o → Satisfies values (formula_where o (log_of ss)) → (order : List ℕ) → IsDecoded (formula_where o (log_of ss)).nodes (before (formula_where o (log_of ss)) values) order → IsSerialOrder ss order
unfolding plain
each_for ss h values None e s order d = serial_by_keys ss order (plain_serial (log_of ss) (clean_log ss h e) values s order d)
each_for ss h values (Some a) e s order d = absurd (contradicted values s)

decodes_for : (ss : List ClientSession) → IsWellFormedList ss → (values : List Bool) (o : Option Anomaly) → anomaly_of (log_of ss) ≡ o → Satisfies values (formula_where o (log_of ss)) → (order : List ℕ) × IsDecoded (formula_where o (log_of ss)).nodes (before (formula_where o (log_of ss)) values) order
unfolding plain
decodes_for ss h values None e s = plain_decodes (log_of ss) (clean_log ss h e) values s
decodes_for ss h values (Some a) e s = absurd (contradicted values s)

-- ---- of the sessions
pub answer_where_serial : (ss : List ClientSession) → IsWellFormedList ss → (order : List ℕ) → IsSerialOrder ss order → (values : List Bool) × Satisfies values (plain_answer ss)
unfolding plain_answer
answer_where_serial ss h order s = some_for ss h order s (anomaly_of (log_of ss)) refl

pub answer_serial : (ss : List ClientSession) → IsWellFormedList ss → (values : List Bool) → Satisfies values (plain_answer ss) → (order : List ℕ) → IsDecoded (plain_answer ss).nodes (before (plain_answer ss) values) order → IsSerialOrder ss order
unfolding plain_answer
answer_serial ss h values s order d = each_for ss h values (anomaly_of (log_of ss)) refl s order d

pub answer_decodes : (ss : List ClientSession) → IsWellFormedList ss → (values : List Bool) → Satisfies values (plain_answer ss) → (order : List ℕ) × IsDecoded (plain_answer ss).nodes (before (plain_answer ss) values) order
unfolding plain_answer
answer_decodes ss h values s = decodes_for ss h values (anomaly_of (log_of ss)) refl s

pub answer_where_some : (ss : List ClientSession) → IsWellFormedList ss → (order : List ℕ) → IsSomeOrder ss order → (values : List Bool) × Satisfies values (plain_answer ss)
answer_where_some ss h order s = let found = serial_where_some ss h (order, s) in answer_where_serial ss h found.0 found.1
