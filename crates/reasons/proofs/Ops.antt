-- Operations of the sessions, and events of the log.
use Rattle.reasons.proofs.Prelude.{◌≡◌, ℕ, ◌<◌, List, Option, None, Some, refl, sym, ap, ◌∙◌, subst, length, get_or, slice_get, option_map, slice_get-get_or, slice_get-map, get_map, ClientSession, key_of, Read, Write, Event, keys_in}
use Rattle.reasons.proofs.Prelude.{ops_of, number_in, event_of, log_of, Log, event_key, IsOpAt, ops_is, listed_at, key_within}
use Rattle.session_log.specs.declared.session.Op.{Op}
use Rattle.serializability.specs.declared.event.Event.TheVariants as event
use Rattle.log_definitions.proofs.Keys.{same_number}

-- ---- one operation, and its event
op_from : (keys : List (List ℕ)) (e : Event) (o : Option Op) → option_map (event_of keys) o ≡ Some e → (op : Op) × (o ≡ Some op) × (event_of keys op ≡ e)
op_from keys e None h = cc
op_from keys e (Some o) h = (o, refl, cc)

pub event_at : (ss : List ClientSession) (v i : ℕ) (o : Op) → IsOpAt ss v i o → slice_get ((log_of ss).ops v) i ≡ Some (event_of (keys_in ss) o)
event_at ss v i o h = ap (λ es. slice_get es i) (ops_is ss v) ∙ get_map (event_of (keys_in ss)) (ops_of ss v) i o h

pub op_of : (ss : List ClientSession) (v i : ℕ) (e : Event) → slice_get ((log_of ss).ops v) i ≡ Some e → (op : Op) × IsOpAt ss v i op × (event_of (keys_in ss) op ≡ e)
op_of ss v i e h = op_from (keys_in ss) e (slice_get (ops_of ss v) i) (sym (slice_get-map (event_of (keys_in ss)) (ops_of ss v) i) ∙ ap (λ es. slice_get es i) (sym (ops_is ss v)) ∙ h)

-- an operation like the event, of this key
abbrev pub op_like : List ℕ → Event → Op
op_like key (event.Read x w) = Read key w
op_like key (event.Write x w) = Write key w

-- the operation that has this event, by its key
pub record OpAt (ss : List ClientSession) (v i : ℕ) (e : Event) : Type 0 where
  pub key : List ℕ
  pub number : number_in (keys_in ss) key ≡ event_key e
  pub stands : IsOpAt ss v i (op_like key e)

op_is : (ss : List ClientSession) (v i : ℕ) (e : Event) (o : Op) → IsOpAt ss v i o → event_of (keys_in ss) o ≡ e → OpAt ss v i e
op_is ss v i e (Read key w) h is = subst (OpAt ss v i) is (record { key = key; number = refl; stands = h })
op_is ss v i e (Write key w) h is = subst (OpAt ss v i) is (record { key = key; number = refl; stands = h })

pub op_at : (ss : List ClientSession) (v i : ℕ) (e : Event) → slice_get ((log_of ss).ops v) i ≡ Some e → OpAt ss v i e
op_at ss v i e h = let o = op_of ss v i e h in op_is ss v i e o.0 o.1 o.2

-- keys of one number are one key
pub same_key : (ss : List ClientSession) (v i : ℕ) (o : Op) (key : List ℕ) → IsOpAt ss v i o → number_in (keys_in ss) (key_of o) ≡ number_in (keys_in ss) key → key_of o ≡ key
same_key ss v i o key h n = same_number (keys_in ss) (key_of o) key (listed_at ss v i o h) n

pub key_of_event : (keys : List (List ℕ)) (o : Op) → event_key (event_of keys o) ≡ number_in keys (key_of o)
key_of_event keys (Read key w) = refl
key_of_event keys (Write key w) = refl

-- the keys of events are those of the log
pub key_below : (ss : List ClientSession) (v i : ℕ) (e : Event) → slice_get ((log_of ss).ops v) i ≡ Some e → event_key e < (log_of ss).keys
key_below ss v i e h =
    let o = op_of ss v i e h in
    subst (λ n. n < (log_of ss).keys) (sym (key_of_event (keys_in ss) o.0) ∙ ap event_key o.2) (key_within ss v i o.0 o.1)

-- ---- the item of a loop over the events of a node
pub item_at : (log : Log) (v i : ℕ) (es : List Event) (d : Event) → es ≡ log.ops v → i < length es → slice_get (log.ops v) i ≡ Some (get_or es i d)
item_at log v i es d own lt = ap (λ l. slice_get l i) (sym own) ∙ slice_get-get_or es i d lt

pub key_below_at : (ss : List ClientSession) (v i : ℕ) (es : List Event) (d : Event) → es ≡ (log_of ss).ops v → i < length es → event_key (get_or es i d) < (log_of ss).keys
key_below_at ss v i es d own lt = key_below ss v i (get_or es i d) (item_at (log_of ss) v i es d own lt)
