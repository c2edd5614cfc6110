-- The read, and the updates, of the anomaly that is reported.
use Rattle.std.proofs.Common.{◌≡◌, ℕ, suc, ◌+◌, ◌-◌, ◌<◌, Bool, true, cond, eqb, List, [], ◌∷◌, length, get_or, slice_get, position, reverse, Option, None, Some, refl, sym, ap, ◌∙◌, inl, inr, arith, eqb-true, eq-eqb, option_map}
use Rattle.std.proofs.lemmas.Bool.{cases_Bool, false≢true}
use Rattle.std.proofs.lemmas.List.{length-reverse, get_or-reverse}
use Rattle.std.proofs.lemmas.Option.{slice_get_within, slice_get-get_or, get_or_from_slice_get}
use Rattle.session_log.specs.Text.{ClientSession}
use Rattle.serializability.specs.declared.anomaly.Anomaly.TheVariants as anomaly
use Rattle.serializability.specs.declared.anomaly.ReadAnomaly.{ReadAnomaly}
use Rattle.serializability.specs.declared.event.Event.{Event}
use Rattle.serializability.specs.declared.event.Event.TheVariants as event
use Rattle.serializability.specs.Anomalies.{anomaly_of}
use Rattle.serializability.specs.Reads.{later, last_write, external_read}
use Rattle.serializability.specs.Polygraph.{writer_of}
use Rattle.anomaly_laws.specs.Meaning.{IsUpdate}
use Rattle.anomaly_laws.proofs.Meaning.{kind_holds, both_update}
use Rattle.log_definitions.specs.Numbers.{log_of}
use Rattle.session_history.proofs.Tabled.{at_seam}
use Rattle.reasons.proofs.Ops.{op_at as op_of_event}
use Rattle.reasons.proofs.Positions.{first_at, none_passes}
use Rattle.tell_reasons.specs.Reasons.{op_at}
use Rattle.tell_reasons.specs.Versions.{is_read_in, is_write_in, last_position, read_at}
use Rattle.tell_laws.specs.Anomalies.{IsRead, DoesUpdate}

-- ---- a read
is_read : (ss : List ClientSession) (v i x w : ℕ) → slice_get ((log_of ss).ops v) i ≡ Some (event.Read x w) → IsRead (op_at ss v i)
is_read ss v i x w h = let o = op_of_event ss v i (event.Read x w) h in (o.key, w, o.stands)

pub reported_read : (ss : List ClientSession) (kind : ReadAnomaly) (v k : ℕ) → anomaly_of (log_of ss) ≡ Some (anomaly.Read kind v k) → IsRead (op_at ss v (k - 1))
reported_read ss kind v k e =
    let r = (kind_holds (log_of ss) kind v k e).0 in
    let es = (log_of ss).ops v in
    let place = r.place in
    let index : k - 1 ≡ length r.before = omega (arith, place) in
    is_read ss v (k - 1) r.key r.identity (ap (λ i. slice_get es i) index ∙ ap (λ l. slice_get l (length r.before)) r.stands ∙ at_seam r.before (event.Read r.key r.identity) r.behind)

-- ---- an event that passes
record PassesAt (p : Event → Bool) (es : List Event) : Type 0 where
  pub at : ℕ
  pub item : Event
  pub stands : slice_get es at ≡ Some item
  pub passes : p item ≡ true

further : (p : Event → Bool) (e : Event) (es : List Event) → PassesAt p es → PassesAt p (e ∷ es)
further p e es h = record { at = suc h.at; item = h.item; stands = h.stands; passes = h.passes }

same : (k x : ℕ) → eqb k x ≡ true → eqb x k ≡ true
same k x e = eq-eqb x k (sym (eqb-true k x e))

read_there : (x w : ℕ) (es : List Event) → external_read x es ≡ Some w → PassesAt (is_read_in x) es
read_there x w [] e = cc
read_there x w (event.Read k v ∷ es) e = elim (cases_Bool (eqb k x)) [
  | inl t ↦ record { at = 0; item = event.Read k v; stands = refl; passes = same k x t }
  | inr f ↦ further (is_read_in x) (event.Read k v) es (read_there x w es (sym (ap (λ b. cond b (Some v) (external_read x es)) f) ∙ e))
]
read_there x w (event.Write k v ∷ es) e = elim (cases_Bool (eqb k x)) [
  | inl t ↦ (let none : None ≡ Some w = sym (ap (λ b. cond b None (external_read x es)) t) ∙ e in cc)
  | inr f ↦ further (is_read_in x) (event.Write k v) es (read_there x w es (sym (ap (λ b. cond b None (external_read x es)) f) ∙ e))
]

write_there : (x w : ℕ) (es : List Event) → last_write x es ≡ Some w → PassesAt (is_write_in x) es
write_there x w [] e = cc
write_there x w (event.Read k v ∷ es) e = further (is_write_in x) (event.Read k v) es (write_there x w es e)
write_there x w (event.Write k v ∷ es) e = elim (cases_Bool (eqb k x)) [
  | inl t ↦ record { at = 0; item = event.Write k v; stands = refl; passes = same k x t }
  | inr f ↦ further (is_write_in x) (event.Write k v) es (write_there x w es (kept (last_write x es) (sym (ap (λ b. later (cond b (Some v) None) (last_write x es)) f) ∙ e)))
]
  where
    kept : (o : Option ℕ) → later None o ≡ Some w → o ≡ Some w
    kept None e = e
    kept (Some y) e = e

found : (p : Event → Bool) (es : List Event) → PassesAt p es → (i : ℕ) × (position p es ≡ Some i)
found p es h = go (position p es) refl
  where
    go : (o : Option ℕ) → position p es ≡ o → (i : ℕ) × (position p es ≡ Some i)
    go None e = absurd (none_passes p es (sym e) h.at h.item h.stands h.passes)
    go (Some i) e = (i, e)

-- from the end
found_last : (p : Event → Bool) (es : List Event) → PassesAt p es → (i : ℕ) × (last_position p es ≡ Some i)
unfolding last_position
found_last p es h =
    let below = slice_get_within es h.at h.item h.stands in
    let size = length-reverse es in
    let back = length es - 1 - h.at in
    let lt : back < length es = omega (arith, below) in
    let index : length es - 1 - back ≡ h.at = omega (arith, below) in
    let item = get_or-reverse es back h.item lt ∙ ap (λ k. get_or es k h.item) index ∙ get_or_from_slice_get es h.at h.item h.item h.stands in
    let f = found p (reverse es) (record {
      at = back;
      item = h.item;
      stands = slice_get-get_or (reverse es) back h.item (omega (arith, lt, size)) ∙ ap (λ y. Some y) item;
      passes = h.passes;
    }) in
    let n = length es in
    (n - (f.0 + 1), ap (option_map (λ b. n - (b + 1))) f.1)

-- ---- an update
mapped : {X Y : Type 0} (f : X → Y) (o : Option X) (y : Y) → option_map f o ≡ Some y → (x : X) × (o ≡ Some x)
mapped f None y e = cc
mapped f (Some x) y e = (x, refl)

first_is_read : (ss : List ClientSession) (x v i : ℕ) → read_at ss x v ≡ Some i → IsRead (op_at ss v i)
first_is_read ss x v i e = let f = first_at (is_read_in x) ((log_of ss).ops v) i (sym e) in go f.item f.passes f.stands
  where
    go : (e : Event) → is_read_in x e ≡ true → slice_get ((log_of ss).ops v) i ≡ Some e → IsRead (op_at ss v i)
    go (event.Read k w) t at = is_read ss v i k w at
    go (event.Write k w) t at = absurd (false≢true t)

does_update : (ss : List ClientSession) (x u v : ℕ) → IsUpdate (log_of ss) x u v → DoesUpdate ss x v
does_update ss x u v h =
    let es = (log_of ss).ops v in
    let r = mapped (writer_of (log_of ss) x) (external_read x es) u h.reads in
    let read = found (is_read_in x) es (read_there x r.0 es r.1) in
    let write = found_last (is_write_in x) es (write_there x h.writes.0 es h.writes.1) in
    record { read = read.0; write = write.0; first = read.1; last = write.1; reads = first_is_read ss x v read.0 read.1 }

pub reported_updates : (ss : List ClientSession) (x u a b : ℕ) → anomaly_of (log_of ss) ≡ Some (anomaly.LostUpdate x u a b) → DoesUpdate ss x a × DoesUpdate ss x b
reported_updates ss x u a b e = let both = both_update (log_of ss) x u a b e in (does_update ss x u a both.1, does_update ss x u b both.2)
