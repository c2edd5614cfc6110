-- The first read of a key, by which a node reads what the log says, and a read that names a write.
use Rattle.reasons.proofs.Prelude.{◌≡◌, ℕ, ◌≤◌, true, List, None, Some, sym, ap, ◌∙◌, subst, eqb-true, eq-eqb, position, ◌≢◌, ◌<◌, Option, inl, inr, get_or, slice_get, is_some, Contains, false≢true, ClientSession, Read, Write, Event}
use Rattle.reasons.proofs.Prelude.{IsFinal, IsClean, WritesAfter, IsNumbered, source, source_is, one_final, is_write, is_write-self, keys_in, ops_of, number_in, log_of, IsWellFormedList, IsNode, IsOpAt, IsNoWriteOf, ReadsAt, IsReadBy}
use Rattle.reasons.proofs.Prelude.{within, before_at, reads_after, none_before, reads_in, reads_key, is_read_of, names, IsFirstRead, get_or_from_slice_get, contains_at, Log, IsLeastRead, NoneRead}
use Rattle.serializability.specs.declared.event.Event.TheVariants as event
use Rattle.reasons.proofs.Positions.{FirstAt, first_at, none_passes, take_fewer, some_passes, never_passes}
use Rattle.reasons.proofs.Ops.{event_at, op_at, same_key}
use Rattle.log_definitions.proofs.Numbered.{numbered}
use Rattle.session_history.specs.Writes.{IsWrite, IsUnwritten}
use Rattle.session_history.specs.declared.writes.Written.{Written}
use Rattle.session_history.proofs.Identified.{writes_where_contained}
use Rattle.anomaly_laws.proofs.Writes.{writes_split}

-- a node that reads a key from another has a read of it
pub some_read : (ss : List ClientSession) → IsClean (log_of ss) → (v x u : ℕ) → IsNode ss v → source (log_of ss) v x ≡ Some u → None ≡ position (is_read_of x) ((log_of ss).ops v) → ⊥
some_read ss clean v x u node from none =
    let f = source_is (log_of ss) clean v x u node.0 (within ss v node) from in
    let r = reads_in ss v x f.w f.before f.reads f.external in
    none_passes (is_read_of x) ((log_of ss).ops v) none r.place (event.Read (number_in (keys_in ss) r.key) f.w) (event_at ss v r.place (Read r.key f.w) r.is.read) (eq-eqb (number_in (keys_in ss) r.key) x r.number)

read_event : (x : ℕ) (e : Event) → is_read_of x e ≡ true → (w : ℕ) × (e ≡ event.Read x w)
read_event x (event.Read k w) t = (w, ap (λ n. event.Read n w) (eqb-true k x t))
read_event x (event.Write k w) t = absurd (false≢true t)

-- the first read of the key, which stands before each write of it, as another one does behind it
earlier_read : (ss : List ClientSession) → IsClean (log_of ss) → (v i k : ℕ) (key : List ℕ) (w y : ℕ) → IsNode ss v → ReadsAt ss v k key w → i ≤ k → IsOpAt ss v i (Read key y) → ReadsAt ss v i key w
earlier_read ss clean v i k key w y node r le at =
    let x = number_in (keys_in ss) key in
    let here : ReadsAt ss v i key y = record { read = at; external = take_fewer (IsNoWriteOf key) i k (ops_of ss v) le r.external } in
    let same : y ≡ w = clean.same v x y w (before_at ss v i) (before_at ss v k) (reads_after ss v i key y node at) (none_before ss v i key y here) (reads_after ss v k key w node r.read) (none_before ss v k key w r) in
    subst (ReadsAt ss v i key) same here

pub first_is : (ss : List ClientSession) → IsClean (log_of ss) → (v x i : ℕ) → IsNode ss v → Some i ≡ position (is_read_of x) ((log_of ss).ops v) → IsFirstRead ss v x i
first_is ss clean v x i node at = record {
  reads = reads;
  first = λ key j w n at. r.first j (event.Read (number_in (keys_in ss) key) w) (event_at ss v j (Read key w) at) (eq-eqb (number_in (keys_in ss) key) x n);
}
  where
    r : FirstAt (is_read_of x) ((log_of ss).ops v) i
    r = first_at (is_read_of x) ((log_of ss).ops v) i at

    reads : (key : List ℕ) (u w : ℕ) → number_in (keys_in ss) key ≡ x → source (log_of ss) v x ≡ Some u → IsFinal (log_of ss) u x w → ReadsAt ss v i key w
    reads key u w n from final =
        let e = read_event x r.item r.passes in
        let at = op_at ss v i (event.Read x e.0) (r.stands ∙ ap Some e.1) in
        let named : at.key ≡ key = same_key ss v i (Read at.key e.0) key at.stands (at.number ∙ sym n) in
        let f = source_is (log_of ss) clean v x u node.0 (within ss v node) from in
        let k = reads_key ss v x f.w key f.before n f.reads f.external in
        let least = r.first k.0 (event.Read (number_in (keys_in ss) key) f.w) (event_at ss v k.0 (Read key f.w) k.1.read) (eq-eqb (number_in (keys_in ss) key) x n) in
        let own = earlier_read ss clean v i k.0 key f.w e.0 node k.1 least (subst (λ k. IsOpAt ss v i (Read k e.0)) named at.stands) in
        subst (ReadsAt ss v i key) (one_final (log_of ss) u x f.w w f.final final) own

-- ---- the write that has an identity
writes_after : (log : Log) (v x w : ℕ) → 0 < v → v ≤ log.nodes → Contains (log.ops v) (event.Write x w) → (before : List Event) × WritesAfter log v before x w
writes_after log v x w low high c = let s = writes_split x w (log.ops v) (writes_where_contained x w (log.ops v) c) in (s.before, (low, high, (s.behind, s.stands)))

other_node : (log : Log) → IsNumbered log → (v x w : ℕ) (r : Written) → 0 < v → v ≤ log.nodes → r.node ≢ v → IsWrite log w r.key r.node r.last → Contains (log.ops v) (event.Write x w) → ⊥
other_node log numbered v x w r low high ne (inl z) c = let a = writes_after log v x w low high c in numbered.aborted v x r.key w a.0 z.1.0 a.1 z.1.1 z.1.2
other_node log numbered v x w r low high ne (inr n) c =
    let a = writes_after log v x w low high c in
    let b = writes_after log r.node r.key w n.node.0 n.node.1 n.stands in
    ne (numbered.distinct r.node v r.key x w b.0 a.0 b.1 a.1).0

not_named : (x w : ℕ) (ops : List Event) → (Contains ops (event.Write x w) → ⊥) → position (names (event.Read x w)) ops ≡ None
not_named x w ops none = never_passes (names (event.Read x w)) ops (λ k f at t. none (contains_at ops k (event.Write x w) (at ∙ ap Some (is_write x w f t))))

pub none_of_other : (ss : List ClientSession) → IsWellFormedList ss → (v x w : ℕ) (r : Written) → IsNode ss v → r.node ≢ v → IsWrite (log_of ss) w r.key r.node r.last → position (names (event.Read x w)) ((log_of ss).ops v) ≡ None
none_of_other ss well v x w r node ne is = not_named x w ((log_of ss).ops v) (other_node (log_of ss) (numbered ss well) v x w r node.0 (within ss v node) ne is)

pub none_unwritten : (ss : List ClientSession) (v x w : ℕ) → IsNode ss v → IsUnwritten (log_of ss) w → position (names (event.Read x w)) ((log_of ss).ops v) ≡ None
none_unwritten ss v x w node none = not_named x w ((log_of ss).ops v) (none.committed v x node.0 (within ss v node))

pub none_by_write : (ops : List Event) (x w : ℕ) → position (names (event.Write x w)) ops ≡ None
none_by_write ops x w = never_passes (names (event.Write x w)) ops (λ k f at t. false≢true t)

-- ---- operations of two nodes
read_from : (ss : List ClientSession) (a i b j : ℕ) (e f : Event) → IsNode ss a → IsNode ss b → a ≢ b → slice_get ((log_of ss).ops b) j ≡ Some e → slice_get ((log_of ss).ops a) i ≡ Some f → names e f ≡ true → IsReadBy ss a i b j
read_from ss a i b j (event.Write x w) f first second apart at there t = absurd (false≢true t)
read_from ss a i b j (event.Read x w) f first second apart at there t =
    let seen = op_at ss b j (event.Read x w) at in
    let write = op_at ss a i (event.Write x w) (there ∙ ap Some (is_write x w f t)) in
    let same : write.key ≡ seen.key = same_key ss a i (Write write.key w) seen.key write.stands (write.number ∙ sym seen.number) in
    record {
      first = first;
      second = second;
      apart = apart;
      key = seen.key;
      wid = w;
      writes = subst (λ k. IsOpAt ss a i (Write k w)) same write.stands;
      reads = seen.stands;
    }

-- what each operation reads of a
module _ (ss : List ClientSession) (a b : ℕ) where
  abbrev pub named : Event → Option ℕ
  named e = position (names e) ((log_of ss).ops a)

  abbrev pub reading : Option ℕ
  reading = position (λ e. is_some (named e)) ((log_of ss).ops b)

  named_by : (i j : ℕ) (r : IsReadBy ss a i b j) → is_some (named (event.Read (number_in (keys_in ss) r.key) r.wid)) ≡ true
  named_by i j r = let x = number_in (keys_in ss) r.key in some_passes (names (event.Read x r.wid)) ((log_of ss).ops a) i (event.Write x r.wid) (event_at ss a i (Write r.key r.wid) r.writes) (is_write-self x r.wid)

  pub none_read : None ≡ reading → NoneRead ss a b
  none_read none i j r = none_passes (λ e. is_some (named e)) ((log_of ss).ops b) none j (event.Read (number_in (keys_in ss) r.key) r.wid) (event_at ss b j (Read r.key r.wid) r.reads) (named_by i j r)

  -- the operation of b that is the first to name a write of a
  module _ (read : ℕ) (es : List Event) (own : es ≡ (log_of ss).ops b) (at : Some read ≡ reading) where
    abbrev pub item : Event
    item = get_or es read (event.Read 0 0)

    found : FirstAt (λ e. is_some (named e)) ((log_of ss).ops b) read
    found = first_at (λ e. is_some (named e)) ((log_of ss).ops b) read at

    same : found.item ≡ item
    same = sym (ap (λ l. get_or l read (event.Read 0 0)) own ∙ get_or_from_slice_get ((log_of ss).ops b) read found.item (event.Read 0 0) found.stands)

    pub some_named : None ≡ named item → ⊥
    some_named none = false≢true (ap is_some none ∙ ap (λ e. is_some (named e)) (sym same) ∙ found.passes)

    module _ (written : ℕ) (there : Some written ≡ named item) where
      write : FirstAt (names item) ((log_of ss).ops a) written
      write = first_at (names item) ((log_of ss).ops a) written there

      pub is_read : IsNode ss a → IsNode ss b → a ≢ b → IsReadBy ss a written b read
      is_read first second apart = read_from ss a written b read item write.item first second apart (found.stands ∙ ap Some same) write.stands write.passes

      pub least_read : IsLeastRead ss a written b read
      least_read = record {
        second = λ i j r. found.first j (event.Read (number_in (keys_in ss) r.key) r.wid) (event_at ss b j (Read r.key r.wid) r.reads) (named_by i j r);
        first = λ i r.
            (let x = number_in (keys_in ss) r.key in
            let seen : Some (event.Read x r.wid) ≡ Some item = sym (event_at ss b read (Read r.key r.wid) r.reads) ∙ found.stands ∙ ap Some same in
            let read : event.Read x r.wid ≡ item = cc in
            write.first i (event.Write x r.wid) (event_at ss a i (Write r.key r.wid) r.writes) (ap (λ d. names d (event.Write x r.wid)) (sym read) ∙ is_write-self x r.wid));
      }
