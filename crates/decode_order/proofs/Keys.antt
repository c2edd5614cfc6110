-- The keys of a log's operations are below their count.
use Rattle.decode_order.proofs.Prelude.{ℕ, ◌<◌, List, [], ◌∷◌, length, AllByRecursion, ClientSession, Event, ops_of, events_of, log_of, event_key}
use Rattle.session_log.specs.Text as text
use Rattle.session_log.specs.declared.session.Op.{Op}
use Rattle.session_log.specs.declared.session.Op.TheVariants.{Read, Write}
use Rattle.log_definitions.specs.WellFormed.{keys_in}
use Rattle.log_definitions.proofs.Keys.{Listed, all_listed, number_below}
use Rattle.log_definitions.proofs.Nodes.{each_op}

numbers_below : (keys : List (List ℕ)) (ops : List Op) → AllByRecursion (λ o. Listed keys (text.key_of o)) ops → AllByRecursion (λ (e : Event). event_key e < length keys) (events_of keys ops)
numbers_below keys [] h = tt
numbers_below keys (Read key w ∷ ops) h = (number_below keys key h.0, numbers_below keys ops h.1)
numbers_below keys (Write key w ∷ ops) h = (number_below keys key h.0, numbers_below keys ops h.1)

pub keys_below : (ss : List ClientSession) (v : ℕ) → AllByRecursion (λ (e : Event). event_key e < (log_of ss).keys) ((log_of ss).ops v)
unfolding log_of
keys_below ss v = numbers_below (keys_in ss) (ops_of ss v) (each_op (λ o. Listed (keys_in ss) (text.key_of o)) ss (all_listed ss) v)
