-- What a read sees by a path.
use Rattle.level_refutations.proofs.Prelude.{◌≡◌, ℕ, ◌+◌, Bool, true, false, not, ◌&&◌, List, [], ◌∷◌, ◌++◌, length, eqb, Option, Some, None, refl, sym, ap, ◌∙◌, inl, inr, arith, take, drop, slice_get, is_some, option_map_or, and_parts}
use Rattle.level_refutations.proofs.Prelude.{false≢true, not-true, ltb-true, take-append-drop, get_or-take, length-take, get_or_from_slice_get, slice_get_within, get_drop, ClientSession, Transaction, Op, Read, Write, ops_of, IsSoundLog}
use Rattle.level_refutations.proofs.Prelude.{IsLearntLog, Level, ReadCommitted, MonotonicAtomicView, ReadAtomic, Causal, last_write, ReadsBehind, IsReadBehind, Direct, Sees, TxnAt, OpAt, Hop, Step, Overlooked, txn_at, op_at, is_same}
use Rattle.level_refutations.proofs.Prelude.{is_named, is_of_key, is_read_where, is_first, is_external, op_of, is_step, is_path, is_read_before, begins_before, may_see, overlooks_by, overlooks, is_forced, Stands, Overlooks, IsForced, Stood}
use Rattle.level_refutations.proofs.Prelude.{EdgesStand, EdgesHaveNodes, IsReadOf}
use Rattle.list_lemmas.proofs.Options.{none_of}
use Rattle.level_refutations.specs.declared.evidence.Step.TheVariants as hop_step
use Rattle.level_refutations.specs.declared.evidence.Edge.TheVariants as edge
use Rattle.level_refutations.specs.Laws as law
use Rattle.level_refutations.proofs.Standing.{four_parts, ops_are}
pub use Rattle.level_refutations.proofs.Steps.{of_key}
use Rattle.level_refutations.proofs.Steps.{nodes_apart, op_is, has_op, node_of_op, named, direct_of_step, ends_of_step, past_of, alone, one_hop}

-- ---- reads of nodes that pass a test
-- the test at the place of a node
pub test_is : (test : List ℕ → ℕ → List Op → Bool) (ss : List ClientSession) (at : OpAt) (v : ℕ) → Stands ss at.txn v → option_map_or (λ (t : Transaction). is_read_where test (take at.op t.ops) (slice_get t.ops at.op)) (txn_at ss at.txn) false ≡ is_read_where test (take at.op (ops_of ss v)) (slice_get (ops_of ss v) at.op)
test_is test ss at v s =
    ap (λ o. option_map_or (λ (t : Transaction). is_read_where test (take at.op t.ops) (slice_get t.ops at.op)) o false) s.found
    ∙ ap (λ l. is_read_where test (take at.op l) (slice_get l at.op)) (sym (ops_are ss at.txn v s))

pub record Passes (test : List ℕ → ℕ → List Op → Bool) (ss : List ClientSession) (at : OpAt) (v : ℕ) : Type 0 where
  pub key : List ℕ
  pub wid : ℕ
  pub stands : op_at ss at ≡ Some (Read key wid)
  pub reads : ReadsBehind ss v (take at.op (ops_of ss v)) key wid
  pub right : test key wid (take at.op (ops_of ss v)) ≡ true

pub passes : (test : List ℕ → ℕ → List Op → Bool) (ss : List ClientSession) (at : OpAt) (v : ℕ) → Stands ss at.txn v → option_map_or (λ (t : Transaction). is_read_where test (take at.op t.ops) (slice_get t.ops at.op)) (txn_at ss at.txn) false ≡ true → Passes test ss at v
passes test ss at v s t = go (slice_get (ops_of ss v) at.op) refl (sym (test_is test ss at v s) ∙ t)
  where
    go : (o : Option Op) → slice_get (ops_of ss v) at.op ≡ o → is_read_where test (take at.op (ops_of ss v)) o ≡ true → Passes test ss at v
    go None e t = absurd (false≢true t)
    go (Some (Write key wid)) e t = absurd (false≢true t)
    go (Some (Read key wid)) e t = record {
      key = key;
      wid = wid;
      stands = op_is ss at v s ∙ e;
      reads = (drop (at.op + 1) (ops_of ss v), sym (take-append-drop at.op (ops_of ss v)) ∙ ap (λ l. take at.op (ops_of ss v) ++ l) (get_drop (ops_of ss v) at.op (Read key wid) e));
      right = t;
    }

-- ---- external reads
pub record External (ss : List ClientSession) (at : OpAt) (v : ℕ) : Type 0 where
  pub key : List ℕ
  pub wid : ℕ
  pub stands : op_at ss at ≡ Some (Read key wid)
  pub reads : ReadsBehind ss v (take at.op (ops_of ss v)) key wid
  pub external : last_write key (take at.op (ops_of ss v)) ≡ None

pub external_at : (ss : List ClientSession) (at : OpAt) (v : ℕ) → is_external ss at ≡ true → Stands ss at.txn v → External ss at v
external_at ss at v t s =
    let p = passes is_first ss at v s t in
    let last = last_write p.key (take at.op (ops_of ss v)) in
    record { key = p.key; wid = p.wid; stands = p.stands; reads = p.reads; external = none_of last (not-true (is_some last) p.right) }

-- ---- what it sees
read_behind : (ss : List ClientSession) (i : ℕ) (from to : TxnAt) (why : Step) (u v : ℕ) → IsSoundLog ss → is_read_before why i ≡ true → is_step ss from to why ≡ true → Stands ss from u → Stands ss to v → IsReadBehind ss u v (take i (ops_of ss v))
read_behind ss i from to hop_step.Session u v sound b t s r = absurd (false≢true b)
read_behind ss i from to (hop_step.Read write read) u v sound b t s r =
    let p = and_parts (not (is_same from to)) (is_named ss (op_of from write) (op_of to read)) t in
    let n = named ss (op_of from write) (op_of to read) p.1 in
    let e = sym (op_is ss (op_of to read) v r) ∙ n.reads in
    let less = ltb-true read i b in
    let high = slice_get_within (ops_of ss v) read (Read n.key n.wid) e in
    record {
      key = n.key;
      wid = n.wid;
      other = nodes_apart ss from to u v sound s r (not-true (is_same from to) p.0);
      writes = has_op ss (op_of from write) (Write n.key n.wid) u s n.writes;
      reads = (read, omega (arith, less, high, length-take i (ops_of ss v)), get_or-take i (ops_of ss v) read (Read n.key n.wid) less ∙ get_or_from_slice_get (ops_of ss v) read (Read n.key n.wid) (Read n.key n.wid) e);
    }

seen_by : (level : Level) (ss : List ClientSession) (i : ℕ) (from to : TxnAt) (hops : List Hop) (u v : ℕ) → IsSoundLog ss → IsLearntLog ss → may_see level i hops ≡ true → is_path ss from hops to ≡ true → Stands ss from u → Stands ss to v → Sees level ss u v (take i (ops_of ss v))
seen_by ReadCommitted ss i from to hops u v sound learnt m t s r = absurd (false≢true m)
seen_by MonotonicAtomicView ss i from to hops u v sound learnt m t s r =
    let p = and_parts (eqb (length hops) 1) (begins_before i hops) m in
    let o = one_hop hops p.0 in
    let a = alone ss from o.0 to u v (sym (ap (λ l. is_path ss from l to) o.1) ∙ t) s r in
    read_behind ss i o.0.from o.0.to o.0.step u v sound (sym (ap (begins_before i) o.1) ∙ p.1) a.0 a.1 a.2
seen_by ReadAtomic ss i from to hops u v sound learnt m t s r =
    let o = one_hop hops m in
    let a = alone ss from o.0 to u v (sym (ap (λ l. is_path ss from l to) o.1) ∙ t) s r in
    direct_of_step ss o.0.from o.0.to o.0.step u v sound learnt a.0 a.1 a.2
seen_by Causal ss i from to [] u v sound learnt m t s r = absurd (false≢true m)
seen_by Causal ss i from to (hop ∷ hops) u v sound learnt m t s r = past_of ss from hop hops to u v sound learnt t s r

-- ---- overlooked writes
pub same_read : (key k : List ℕ) (wid w : ℕ) → Some (Read key wid) ≡ Some (Read k w) → (key ≡ k) × (wid ≡ w)
same_read key k wid w e = (cc, cc)

pub sight_parts : (level : Level) (ss : List ClientSession) (read write : OpAt) (hops : List Hop) → overlooks_by level ss read write hops ≡ true → (is_external ss read ≡ true) × (is_of_key ss write read ≡ true) × (is_path ss write.txn hops read.txn ≡ true) × (may_see level read.op hops ≡ true)
sight_parts level ss read write hops t = four_parts (is_external ss read) (is_of_key ss write read) (is_path ss write.txn hops read.txn) (may_see level read.op hops) t

pub record Sight (level : Level) (ss : List ClientSession) (o : Overlooked) (u v : ℕ) : Type 0 where
  pub key : List ℕ
  pub wid : ℕ
  pub stands : op_at ss o.read ≡ Some (Read key wid)
  pub is : Overlooks level ss u v (take o.read.op (ops_of ss v)) key wid

pub sight : (level : Level) (ss : List ClientSession) (o : Overlooked) (u v : ℕ) → IsSoundLog ss → IsLearntLog ss → overlooks level ss o ≡ true → Stands ss o.write.txn u → Stands ss o.read.txn v → Sight level ss o u v
sight level ss o u v sound learnt t s r =
    let p = sight_parts level ss o.read o.write o.path.items t in
    let e = external_at ss o.read v p.0 r in
    let k = of_key ss o.write o.read p.1 in
    let same = same_read e.key k.key e.wid k.wid (sym e.stands ∙ k.reads) in
    record {
      key = e.key;
      wid = e.wid;
      stands = e.stands;
      is = record {
        reads = e.reads;
        external = e.external;
        sees = seen_by level ss o.read.op o.write.txn o.read.txn o.path.items u v sound learnt p.3 p.2 s r;
        writes = (k.other, has_op ss o.write (Write e.key k.other) u s (k.writes ∙ ap (λ l. Some (Write l k.other)) (sym same.0)));
      };
    }

-- its two places are those of nodes
pub ends_of_sight : (level : Level) (ss : List ClientSession) (o : Overlooked) → IsLearntLog ss → overlooks level ss o ≡ true → ((u : ℕ) × Stands ss o.write.txn u) × ((v : ℕ) × Stands ss o.read.txn v)
ends_of_sight level ss o learnt t =
    let k = of_key ss o.write o.read (sight_parts level ss o.read o.write o.path.items t).1 in
    (node_of_op ss o.write (Write k.key k.other) learnt k.writes, node_of_op ss o.read (Read k.key k.wid) learnt k.reads)

-- ---- edges
pub forced_parts : (level : Level) (ss : List ClientSession) (o : Overlooked) (found : OpAt) → is_forced level ss o found ≡ true → IsReadOf ss found o.read × (is_same o.write.txn found.txn ≡ false) × (overlooks level ss o ≡ true)
forced_parts level ss o found t =
    let p = and_parts (is_named ss found o.read) (not (is_same o.write.txn found.txn) && overlooks level ss o) t in
    let q = and_parts (not (is_same o.write.txn found.txn)) (overlooks level ss o) p.1 in
    (named ss found o.read p.0, not-true (is_same o.write.txn found.txn) q.0, q.1)

forced_edge : (level : Level) (ss : List ClientSession) (o : Overlooked) (found : OpAt) (u v : ℕ) → IsSoundLog ss → IsLearntLog ss → is_forced level ss o found ≡ true → Stands ss o.write.txn u → Stands ss found.txn v → IsForced level ss u v
forced_edge level ss o found u v sound learnt t s r =
    let p = forced_parts level ss o found t in
    let n = p.0 in
    let reader = (ends_of_sight level ss o learnt p.2).1 in
    let g = sight level ss o u reader.0 sound learnt p.2 s reader.1 in
    let same = same_read g.key n.key g.wid n.wid (sym g.stands ∙ n.reads) in
    record {
      reader = reader.0;
      before = take o.read.op (ops_of ss reader.0);
      key = g.key;
      wid = g.wid;
      overlooks = g.is;
      other = nodes_apart ss o.write.txn found.txn u v sound s r p.1;
      found = has_op ss found (Write g.key g.wid) v r (n.writes ∙ ap (λ l. Some (Write l n.wid)) (sym same.0) ∙ ap (λ w. Some (Write g.key w)) (sym same.1));
    }

stood_by : (level : Level) (ss : List ClientSession) (u v : ℕ) → Direct ss u v → Stood level ss u v
stood_by level ss u v (inl e) = law.session u v e
stood_by level ss u v (inr e) = law.read u v e

pub edges_stand : EdgesStand
edges_stand level ss sound learnt (edge.Known hop) t u v s r = stood_by level ss u v (direct_of_step ss hop.from hop.to hop.step u v sound learnt t s r)
edges_stand level ss sound learnt (edge.Forced o found) t u v s r = law.forced u v (forced_edge level ss o found u v sound learnt t s r)

pub edges_have_nodes : EdgesHaveNodes
edges_have_nodes level ss learnt (edge.Known hop) t = ends_of_step ss hop.from hop.to hop.step learnt t
edges_have_nodes level ss learnt (edge.Forced o found) t =
    let p = forced_parts level ss o found t in
    ((ends_of_sight level ss o learnt p.2).0, node_of_op ss found (Write p.0.key p.0.wid) learnt p.0.writes)
