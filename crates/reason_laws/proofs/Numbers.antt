-- What sessions say of a node, and what the log of their numbers says of it.
use Rattle.std.proofs.Common.{◌≡◌, ◌≢◌, ◌⊎◌, ℕ, suc, ◌+◌, ◌<◌, ◌≤◌, Bool, true, false, eqb, cond, List, [], ◌∷◌, ◌++◌, length, map, take, drop, Option, None, Some, refl, sym, ap, ◌∙◌, subst, inl, inr, add-one, eqb-true, eq-eqb}
use Rattle.std.specs.Prelude.{slice_get}
use Rattle.std.specs.List.{AllByRecursion}
use Rattle.std.proofs.lemmas.Bool.{eqb-false, ne_eqb}
use Rattle.std.proofs.lemmas.List.{map-append, take-append-drop}
use Rattle.list_lemmas.proofs.Elements.{get_drop}
use Rattle.session_log.specs.Moments.{is_earlier}
use Rattle.session_log.specs.Text.{ClientSession, key_of}
use Rattle.session_log.specs.declared.session.Op.{Op}
use Rattle.session_log.specs.declared.session.Op.TheVariants.{Read, Write}
use Rattle.serializability.specs.declared.event.Event.{Event}
use Rattle.serializability.specs.declared.event.Event.TheVariants as event
use Rattle.serializability.specs.Reads.{later, last_write, IsFinal, ReadsAfter, WritesAfter, IsClean}
use Rattle.serializability.specs.Polygraph.{source}
use Rattle.serializability.proofs.Replays.{last_write-append}
use Rattle.serializability.proofs.Sources.{later_none_parts, later_none_from, source_is, source_from}
use Rattle.anomaly_laws.proofs.Writes.{writes_at, some_last_write}
use Rattle.log_definitions.specs.WellFormed.{keys_in}
use Rattle.log_definitions.specs.Serial.{session_of, ops_of, begun_of, ended_of}
use Rattle.log_definitions.specs.Numbers.{number_in, event_of, events_of, log_of}
use Rattle.log_definitions.proofs.Keys.{Listed, all_listed, number_below, same_number}
use Rattle.log_definitions.proofs.Nodes.{each_op, each_at, log_keys, log_nodes}
use Rattle.reason_laws.specs.Reasons.{IsNode, IsOpAt, IsNoWriteOf, ReadsAt, WritesLastAt}

-- ---- the log, field by field
pub ops_is : (ss : List ClientSession) (v : ℕ) → (log_of ss).ops v ≡ events_of (keys_in ss) (ops_of ss v)
unfolding log_of
ops_is ss v = refl

pub session_is : (ss : List ClientSession) (v : ℕ) → (log_of ss).session v ≡ session_of ss v
unfolding log_of
session_is ss v = refl

pub earlier_is : (ss : List ClientSession) (u v : ℕ) → (log_of ss).earlier u v ≡ is_earlier (ended_of ss u) (begun_of ss v)
unfolding log_of
earlier_is ss u v = refl

-- a node of the log
pub within : (ss : List ClientSession) (v : ℕ) → IsNode ss v → v ≤ (log_of ss).nodes
within ss v h = subst (λ n. v ≤ n) (sym (log_nodes ss)) h.1

pub node_from : (ss : List ClientSession) (v : ℕ) → 0 < v → v ≤ (log_of ss).nodes → IsNode ss v
node_from ss v lo hi = (lo, subst (λ n. v ≤ n) (log_nodes ss) hi)

-- ---- keys
pub listed_at : (ss : List ClientSession) (v i : ℕ) (op : Op) → IsOpAt ss v i op → Listed (keys_in ss) (key_of op)
listed_at ss v i op e =
    each_at (λ o. Listed (keys_in ss) (key_of o)) (ops_of ss v) i op (each_op (λ o. Listed (keys_in ss) (key_of o)) ss (all_listed ss) v) e

pub key_within : (ss : List ClientSession) (v i : ℕ) (op : Op) → IsOpAt ss v i op → number_in (keys_in ss) (key_of op) < (log_of ss).keys
key_within ss v i op e =
    subst (λ n. number_in (keys_in ss) (key_of op) < n) (sym (log_keys ss)) (number_below (keys_in ss) (key_of op) (listed_at ss v i op e))

-- ---- from the sessions to the log
-- the events before operation i of node v
abbrev pub before_at : List ClientSession → ℕ → ℕ → List Event
before_at ss v i = events_of (keys_in ss) (take i (ops_of ss v))

abbrev pub behind_at : List ClientSession → ℕ → ℕ → List Event
behind_at ss v i = events_of (keys_in ss) (drop (i + 1) (ops_of ss v))

cut_at : (ss : List ClientSession) (v i : ℕ) (op : Op) → IsOpAt ss v i op → (log_of ss).ops v ≡ before_at ss v i ++ event_of (keys_in ss) op ∷ behind_at ss v i
cut_at ss v i op e =
    let ops = ops_of ss v in
    ops_is ss v ∙ ap (events_of (keys_in ss)) (sym (take-append-drop i ops) ∙ ap (λ l. take i ops ++ l) (get_drop ops i op e))
    ∙ map-append (event_of (keys_in ss)) (take i ops) (op ∷ drop (i + 1) ops)

pub reads_after : (ss : List ClientSession) (v i : ℕ) (key : List ℕ) (wid : ℕ) → IsNode ss v → IsOpAt ss v i (Read key wid) → ReadsAfter (log_of ss) v (before_at ss v i) (number_in (keys_in ss) key) wid
reads_after ss v i key wid node e = (node.0, within ss v node, (behind_at ss v i, cut_at ss v i (Read key wid) e))

pub writes_after : (ss : List ClientSession) (v i : ℕ) (key : List ℕ) (wid : ℕ) → IsNode ss v → IsOpAt ss v i (Write key wid) → WritesAfter (log_of ss) v (before_at ss v i) (number_in (keys_in ss) key) wid
writes_after ss v i key wid node e = (node.0, within ss v node, (behind_at ss v i, cut_at ss v i (Write key wid) e))

none_written : (keys : List (List ℕ)) (key : List ℕ) → Listed keys key → (ops : List Op) → AllByRecursion (IsNoWriteOf key) ops → last_write (number_in keys key) (events_of keys ops) ≡ None
none_written keys key l [] h = refl
none_written keys key l (Read k w ∷ ops) h = none_written keys key l ops h.1
none_written keys key l (Write k w ∷ ops) h =
    later_none_from (eqb (number_in keys k) (number_in keys key)) w (last_write (number_in keys key) (events_of keys ops))
    (ne_eqb (number_in keys k) (number_in keys key) (λ e. h.0 (sym (same_number keys key k l (sym e))))) (none_written keys key l ops h.1)

pub none_before : (ss : List ClientSession) (v i : ℕ) (key : List ℕ) (wid : ℕ) → ReadsAt ss v i key wid → last_write (number_in (keys_in ss) key) (before_at ss v i) ≡ None
none_before ss v i key wid r = none_written (keys_in ss) key (listed_at ss v i (Read key wid) r.read) (take i (ops_of ss v)) r.external

-- what is read, as the log has it
pub source_of_read : (ss : List ClientSession) → IsClean (log_of ss) → (v i : ℕ) (key : List ℕ) (wid u : ℕ) → IsNode ss v → ReadsAt ss v i key wid → IsFinal (log_of ss) u (number_in (keys_in ss) key) wid → source (log_of ss) v (number_in (keys_in ss) key) ≡ Some u
source_of_read ss clean v i key wid u node r final =
    source_from (log_of ss) clean v (number_in (keys_in ss) key) u wid (before_at ss v i) (reads_after ss v i key wid node r.read) (none_before ss v i key wid r) final

pub record Wrote (ss : List ClientSession) (v : ℕ) (key : List ℕ) (wid : ℕ) : Type 0 where
  pub node : ℕ
  pub final : IsFinal (log_of ss) node (number_in (keys_in ss) key) wid
  pub is : source (log_of ss) v (number_in (keys_in ss) key) ≡ Some node

pub wrote : (ss : List ClientSession) → IsClean (log_of ss) → (v i : ℕ) (key : List ℕ) (wid : ℕ) → IsNode ss v → ReadsAt ss v i key wid → Wrote ss v key wid
wrote ss clean v i key wid node r =
    let f = clean.external v (number_in (keys_in ss) key) wid (before_at ss v i) (reads_after ss v i key wid node r.read) (none_before ss v i key wid r) in
    record { node = f.0; final = f.2; is = source_of_read ss clean v i key wid f.0 node r f.2 }

pub final_at : (ss : List ClientSession) (v i : ℕ) (key : List ℕ) (wid : ℕ) → WritesLastAt ss v i key wid → last_write (number_in (keys_in ss) key) ((log_of ss).ops v) ≡ Some wid
final_at ss v i key wid w =
    let x = number_in (keys_in ss) key in
    let none = none_written (keys_in ss) key (listed_at ss v i (Write key wid) w.write) (drop (i + 1) (ops_of ss v)) w.last in
    let here : last_write x (event.Write x wid ∷ behind_at ss v i) ≡ Some wid = rw (none, eq-eqb x x refl) refl in
    ap (last_write x) (cut_at ss v i (Write key wid) w.write) ∙ last_write-append x (before_at ss v i) (event.Write x wid ∷ behind_at ss v i) ∙ ap (later (last_write x (before_at ss v i))) here

pub writes_some : (ss : List ClientSession) (v i : ℕ) (key : List ℕ) (wid : ℕ) → IsNode ss v → IsOpAt ss v i (Write key wid) → (y : ℕ) × (last_write (number_in (keys_in ss) key) ((log_of ss).ops v) ≡ Some y)
writes_some ss v i key wid node e =
    let w = writes_after ss v i key wid node e in
    some_last_write (number_in (keys_in ss) key) wid ((log_of ss).ops v)
    (writes_at (number_in (keys_in ss) key) wid ((log_of ss).ops v) (before_at ss v i) w.2.0 w.2.1)

-- ---- from the log to the sessions
no_write_of : (keys : List (List ℕ)) (key : List ℕ) (x : ℕ) (ops : List Op) → number_in keys key ≡ x → last_write x (events_of keys ops) ≡ None → AllByRecursion (IsNoWriteOf key) ops
no_write_of keys key x [] n e = tt
no_write_of keys key x (Read k w ∷ ops) n e = (tt, no_write_of keys key x ops n e)
no_write_of keys key x (Write k w ∷ ops) n e =
    let p = later_none_parts (eqb (number_in keys k) x) w (last_write x (events_of keys ops)) e in
    (λ same. eqb-false (number_in keys k) x p.0 (ap (number_in keys) same ∙ n), no_write_of keys key x ops n p.1)

some_parts : (b : Bool) (v w : ℕ) (o : Option ℕ) → later (cond b (Some v) None) o ≡ Some w → (o ≡ Some w) ⊎ ((o ≡ None) × (b ≡ true) × (v ≡ w))
some_parts true v w None e = inr (refl, refl, cc)
some_parts false v w None e = cc
some_parts b v w (Some y) e = inl e

-- the place of a write, and its key, which is not written behind it
abbrev WrittenLast : List (List ℕ) → ℕ → ℕ → List Op → Type 0
WrittenLast keys x w ops = (place : ℕ) × (key : List ℕ) × (slice_get ops place ≡ Some (Write key w)) × (number_in keys key ≡ x) × AllByRecursion (IsNoWriteOf key) (drop (suc place) ops)

last_written : (keys : List (List ℕ)) (x w : ℕ) (ops : List Op) → last_write x (events_of keys ops) ≡ Some w → WrittenLast keys x w ops
last_written keys x w [] e = cc
last_written keys x w (Read k v ∷ ops) e = let r = last_written keys x w ops e in (suc r.0, r.1, r.2, r.3, r.4)
last_written keys x w (Write k v ∷ ops) e = elim (some_parts (eqb (number_in keys k) x) v w (last_write x (events_of keys ops)) e) [
  | inl h ↦ let r = last_written keys x w ops h in (suc r.0, r.1, r.2, r.3, r.4)
  | inr h ↦ let n = eqb-true (number_in keys k) x h.1 in (0, k, ap (λ y. Some (Write k y)) h.2, n, no_write_of keys k x ops n h.0)
]

pub writes_key : (ss : List ClientSession) (v x w : ℕ) (key : List ℕ) → number_in (keys_in ss) key ≡ x → last_write x ((log_of ss).ops v) ≡ Some w → (i : ℕ) × WritesLastAt ss v i key w
writes_key ss v x w key n e =
    let r = last_written (keys_in ss) x w (ops_of ss v) (sym (ap (last_write x) (ops_is ss v)) ∙ e) in
    let same = same_number (keys_in ss) r.1 key (listed_at ss v r.0 (Write r.1 w) r.2) (r.3 ∙ sym n) in
    (r.0, subst (λ k. WritesLastAt ss v r.0 k w) same (record { write = r.2; last = rw add-one r.4 }))

-- where mapped items are cut at one of them, so are the items
mapped_cut : {X Y : Type 0} (f : X → Y) (xs : List X) (before : List Y) (y : Y) (behind : List Y) → map f xs ≡ before ++ y ∷ behind → (x : X) × (slice_get xs (length before) ≡ Some x) × (f x ≡ y) × (map f (take (length before) xs) ≡ before)
mapped_cut f [] [] y behind e = cc
mapped_cut f [] (d ∷ before) y behind e = cc
mapped_cut f (x ∷ xs) [] y behind e = (x, refl, cc, refl)
mapped_cut f (x ∷ xs) (d ∷ before) y behind e =
    let same : f x ≡ d = cc in
    let r = mapped_cut f xs before y behind (cc) in
    (r.0, r.1, r.2, λ i. same i ∷ r.3 i)

pub record ReadsIn (ss : List ClientSession) (v x w : ℕ) : Type 0 where
  pub place : ℕ
  pub key : List ℕ
  pub number : number_in (keys_in ss) key ≡ x
  pub is : ReadsAt ss v place key w

pub reads_in : (ss : List ClientSession) (v x w : ℕ) (before : List Event) → ReadsAfter (log_of ss) v before x w → last_write x before ≡ None → ReadsIn ss v x w
reads_in ss v x w before reads external =
    let r = mapped_cut (event_of (keys_in ss)) (ops_of ss v) before (event.Read x w) reads.2.0 (sym (ops_is ss v) ∙ reads.2.1) in
    go r.0 r.1 r.2 (ap (last_write x) r.3 ∙ external)
  where
    go : (op : Op) → IsOpAt ss v (length before) op → event_of (keys_in ss) op ≡ event.Read x w → last_write x (before_at ss v (length before)) ≡ None → ReadsIn ss v x w
    go (Read k u) at is none =
        let n : number_in (keys_in ss) k ≡ x = cc in
        record { place = length before; key = k; number = n; is = record { read = cc; external = no_write_of (keys_in ss) k x (take (length before) (ops_of ss v)) n none } }
    go (Write k u) at is none = cc

pub reads_key : (ss : List ClientSession) (v x w : ℕ) (key : List ℕ) (before : List Event) → number_in (keys_in ss) key ≡ x → ReadsAfter (log_of ss) v before x w → last_write x before ≡ None → (i : ℕ) × ReadsAt ss v i key w
reads_key ss v x w key before n reads external =
    let r = reads_in ss v x w before reads external in
    let read = r.is.read in
    let same = same_number (keys_in ss) r.key key (listed_at ss v r.place (Read r.key w) read) (r.number ∙ sym n) in
    (r.place, subst (λ k. ReadsAt ss v r.place k w) same r.is)

-- a read by which b reads the key from a
pub record ReadsFrom (ss : List ClientSession) (key : List ℕ) (b a : ℕ) : Type 0 where
  pub place : ℕ
  pub wid : ℕ
  pub reads : ReadsAt ss b place key wid
  pub final : IsFinal (log_of ss) a (number_in (keys_in ss) key) wid
  pub other : a ≢ b

pub reads_from : (ss : List ClientSession) → IsClean (log_of ss) → (b a : ℕ) (key : List ℕ) → IsNode ss b → source (log_of ss) b (number_in (keys_in ss) key) ≡ Some a → ReadsFrom ss key b a
reads_from ss clean b a key node e =
    let x = number_in (keys_in ss) key in
    let f = source_is (log_of ss) clean b x a node.0 (within ss b node) e in
    let r = reads_key ss b x f.w key f.before refl f.reads f.external in
    record { place = r.0; wid = f.w; reads = r.1; final = f.final; other = f.other }

-- the key of this number, where it is read
pub key_read : (ss : List ClientSession) → IsClean (log_of ss) → (b a x : ℕ) → IsNode ss b → source (log_of ss) b x ≡ Some a → (key : List ℕ) × (x ≡ number_in (keys_in ss) key)
key_read ss clean b a x node e =
    let f = source_is (log_of ss) clean b x a node.0 (within ss b node) e in
    let r = reads_in ss b x f.w f.before f.reads f.external in
    (r.key, sym r.number)
