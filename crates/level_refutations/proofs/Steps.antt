-- What right edges say of nodes.
use Rattle.level_refutations.proofs.Prelude.{◌≡◌, ◌≢◌, ℕ, zero, suc, ◌+◌, Bool, true, false, not, ◌&&◌, List, [], ◌∷◌, length, eqb, ltb, eqb-true, eq-eqb, Option, Some, None, refl, sym, ap, ◌∙◌, subst, inl, inr, arith, map, slice_get}
use Rattle.level_refutations.proofs.Prelude.{is_some, option_and_then, Contains, option_map_or, bytes_eq, and_parts, and_from, false≢true, not-true, ltb-true, false_from_ne_true, same_Some, bytes_eq-Decides, contains_at, same_item, get_map}
use Rattle.level_refutations.proofs.Prelude.{ClientSession, Transaction, Op, Read, Write, Apart, Apart-from_IsDistinct, Has-from_Contains, reads_write, Committed, ops_of, IsSoundLog, IsLearntLog, node_at, IsEarlier, ReadsFrom, Direct, Past}
use Rattle.level_refutations.proofs.Prelude.{step, path, TxnAt, OpAt, Hop, Step, txn_at, op_at, is_same, both, is_named, has_key, is_of_key, is_session_step, is_read_step, op_of, is_step, is_hop, is_path, place, Stands, IsNamed, IsReadOf}
use Rattle.level_refutations.proofs.Prelude.{IsWriteFor}
use Rattle.level_refutations.specs.declared.evidence.Step.TheVariants as hop_step
use Rattle.level_refutations.proofs.Standing.{and_then_some, map_or_true, four_parts, standing, ops_are, session_is, one_node, in_session, within}

-- ---- places
same_place : (a b : TxnAt) → a.session ≡ b.session → a.txn ≡ b.txn → a ≡ b
same_place a b e f = ap (λ n. place n a.txn) e ∙ ap (place b.session) f

pub same_at : (a b : TxnAt) → is_same a b ≡ true → a ≡ b
same_at a b t = let p = and_parts (eqb a.session b.session) (eqb a.txn b.txn) t in same_place a b (eqb-true a.session b.session p.0) (eqb-true a.txn b.txn p.1)

pub same_self : (a : TxnAt) → is_same a a ≡ true
same_self a = and_from (eqb a.session a.session) (eqb a.txn a.txn) (eq-eqb a.session a.session refl) (eq-eqb a.txn a.txn refl)

one_index : (ns : List ℕ) (i j n : ℕ) → Apart ns → slice_get ns i ≡ Some n → slice_get ns j ≡ Some n → i ≡ j
one_index [] i j n h e f = cc
one_index (m ∷ ns) zero zero n h e f = refl
one_index (m ∷ ns) zero (suc j) n h e f = absurd (h.0 (Has-from_Contains ns m (subst (Contains ns) (sym (same_Some m n e)) (contains_at ns j n f))))
one_index (m ∷ ns) (suc i) zero n h e f = absurd (h.0 (Has-from_Contains ns m (subst (Contains ns) (sym (same_Some m n f)) (contains_at ns i n e))))
one_index (m ∷ ns) (suc i) (suc j) n h e f = ap suc (one_index ns i j n h.1 e f)

pub same_session : (ss : List ClientSession) (a b : TxnAt) (u v : ℕ) → IsSoundLog ss → (s : Stands ss a u) (r : Stands ss b v) → s.session.number ≡ r.session.number → a.session ≡ b.session
same_session ss a b u v sound s r e =
    let number : ClientSession → ℕ = λ x. x.number in
    one_index (map number ss) a.session b.session r.session.number (Apart-from_IsDistinct (map number ss) sound.sessions) (get_map number ss a.session s.session s.picked ∙ ap Some e) (get_map number ss b.session r.session r.picked)

-- a node has one place
one_place : (ss : List ClientSession) (a b : TxnAt) (v : ℕ) → IsSoundLog ss → Stands ss a v → Stands ss b v → a ≡ b
one_place ss a b v sound s r =
    let node = same_Some (node_at s.session.number (a.txn + 1) s.txn) (node_at r.session.number (b.txn + 1) r.txn) (sym s.node ∙ r.node) in
    let places : a.txn + 1 ≡ b.txn + 1 = ap (λ (c : Committed). c.place) node in
    same_place a b (same_session ss a b v v sound s r (ap (λ (c : Committed). c.session) node)) (omega (arith, places))

pub nodes_apart : (ss : List ClientSession) (a b : TxnAt) (u v : ℕ) → IsSoundLog ss → Stands ss a u → Stands ss b v → is_same a b ≡ false → u ≢ v
nodes_apart ss a b u v sound s r f e = false≢true (sym f ∙ ap (is_same a) (sym (one_place ss a b v sound (subst (Stands ss a) e s) r)) ∙ same_self a)

-- nodes apart have places apart
pub places_apart : (ss : List ClientSession) (a b : TxnAt) (u v : ℕ) → IsSoundLog ss → IsLearntLog ss → Stands ss a u → Stands ss b v → u ≢ v → not (is_same a b) ≡ true
places_apart ss a b u v sound learnt s r apart =
    ap not (false_from_ne_true (is_same a b) (λ e. apart (one_node ss b u v sound learnt (subst (λ at. Stands ss at u) (same_at a b e) s) r)))

-- ---- operations
pub op_is : (ss : List ClientSession) (at : OpAt) (v : ℕ) → Stands ss at.txn v → op_at ss at ≡ slice_get (ops_of ss v) at.op
op_is ss at v s = ap (option_and_then (λ (t : Transaction). slice_get t.ops at.op)) s.found ∙ ap (λ l. slice_get l at.op) (sym (ops_are ss at.txn v s))

pub has_op : (ss : List ClientSession) (at : OpAt) (op : Op) (v : ℕ) → Stands ss at.txn v → op_at ss at ≡ Some op → Contains (ops_of ss v) op
has_op ss at op v s e = contains_at (ops_of ss v) at.op op (sym (op_is ss at v s) ∙ e)

pub node_of_op : (ss : List ClientSession) (at : OpAt) (op : Op) → IsLearntLog ss → op_at ss at ≡ Some op → (v : ℕ) × Stands ss at.txn v
node_of_op ss at op learnt e =
    let t = and_then_some (λ (t : Transaction). slice_get t.ops at.op) (txn_at ss at.txn) op e in
    standing ss at.txn t.0 learnt t.1

both_are : (test : Op → Op → Bool) (r w : Option Op) → both test r w ≡ true → (a b : Op) × (r ≡ Some a) × (w ≡ Some b) × (test a b ≡ true)
both_are test r w t =
    let x = map_or_true (λ a. option_map_or (test a) w false) r t in
    let y = map_or_true (test x.0) w x.2 in
    (x.0, y.0, x.1, y.1, y.2)

-- a read and what it names
pub named_by : (r w : Option Op) → both reads_write r w ≡ true → IsNamed r w
named_by r w t = let b = both_are reads_write r w t in go b.0 b.1 b.2 b.3 b.4
  where
    go : (a b : Op) → r ≡ Some a → w ≡ Some b → reads_write a b ≡ true → IsNamed r w
    go (Read key wid) (Write k v) e f t =
        let p = and_parts (bytes_eq key k) (eqb wid v) t in
        let keys = (bytes_eq-Decides key k).0 p.0 in
        record { key = key; wid = wid; reads = e; writes = f ∙ ap (λ l. Some (Write l v)) (sym keys) ∙ ap (λ n. Some (Write key n)) (sym (eqb-true wid v p.1)) }
    go (Read key wid) (Read k v) e f t = absurd (false≢true t)
    go (Write key wid) b e f t = absurd (false≢true t)

pub named : (ss : List ClientSession) (write read : OpAt) → is_named ss write read ≡ true → IsReadOf ss write read
named ss write read t = named_by (op_at ss read) (op_at ss write) t

pub of_key : (ss : List ClientSession) (write read : OpAt) → is_of_key ss write read ≡ true → IsWriteFor ss write read
of_key ss write read t = let b = both_are has_key (op_at ss read) (op_at ss write) t in go b.0 b.1 b.2 b.3 b.4
  where
    go : (a b : Op) → op_at ss read ≡ Some a → op_at ss write ≡ Some b → has_key a b ≡ true → IsWriteFor ss write read
    go (Read key wid) (Write k v) e f t = record { key = key; wid = wid; other = v; reads = e; writes = f ∙ ap (λ l. Some (Write l v)) (sym ((bytes_eq-Decides key k).0 t)) }
    go (Read key wid) (Read k v) e f t = absurd (false≢true t)
    go (Write key wid) b e f t = absurd (false≢true t)

-- ---- steps
some_txn : (o : Option Transaction) → is_some o ≡ true → (t : Transaction) × (o ≡ Some t)
some_txn None t = absurd (false≢true t)
some_txn (Some x) t = (x, refl)

session_step : (ss : List ClientSession) (from to : TxnAt) (u v : ℕ) → IsSoundLog ss → IsLearntLog ss → is_session_step ss from to ≡ true → Stands ss from u → Stands ss to v → IsEarlier ss u v
session_step ss from to u v sound learnt t s r =
    let p = four_parts (eqb from.session to.session) (ltb from.txn to.txn) (is_some (txn_at ss from)) (is_some (txn_at ss to)) t in
    let index = eqb-true from.session to.session p.0 in
    let same = same_item ss to.session s.session r.session (ap (slice_get ss) (sym index) ∙ s.picked) r.picked in
    record {
      low = (within ss from u s).0;
      less = in_session ss from to u v sound learnt s r index (ltb-true from.txn to.txn p.1);
      high = (within ss to v r).1;
      session = session_is ss from u s ∙ ap (λ (x : ClientSession). x.number) same ∙ sym (session_is ss to v r);
    }

read_step : (ss : List ClientSession) (write read : OpAt) (u v : ℕ) → IsSoundLog ss → is_read_step ss write read ≡ true → Stands ss write.txn u → Stands ss read.txn v → ReadsFrom ss u v
read_step ss write read u v sound t s r =
    let p = and_parts (not (is_same write.txn read.txn)) (is_named ss write read) t in
    let n = named ss write read p.1 in
    record {
      key = n.key;
      wid = n.wid;
      other = nodes_apart ss write.txn read.txn u v sound s r (not-true (is_same write.txn read.txn) p.0);
      writes = has_op ss write (Write n.key n.wid) u s n.writes;
      reads = has_op ss read (Read n.key n.wid) v r n.reads;
    }

pub direct_of_step : (ss : List ClientSession) (from to : TxnAt) (why : Step) (u v : ℕ) → IsSoundLog ss → IsLearntLog ss → is_step ss from to why ≡ true → Stands ss from u → Stands ss to v → Direct ss u v
direct_of_step ss from to hop_step.Session u v sound learnt t s r = inl (session_step ss from to u v sound learnt t s r)
direct_of_step ss from to (hop_step.Read write read) u v sound learnt t s r = inr (read_step ss (op_of from write) (op_of to read) u v sound t s r)

-- the places of a step are those of nodes
pub ends_of_step : (ss : List ClientSession) (from to : TxnAt) (why : Step) → IsLearntLog ss → is_step ss from to why ≡ true → ((u : ℕ) × Stands ss from u) × ((v : ℕ) × Stands ss to v)
ends_of_step ss from to hop_step.Session learnt t =
    let p = four_parts (eqb from.session to.session) (ltb from.txn to.txn) (is_some (txn_at ss from)) (is_some (txn_at ss to)) t in
    let one = some_txn (txn_at ss from) p.2 in
    let other = some_txn (txn_at ss to) p.3 in
    (standing ss from one.0 learnt one.1, standing ss to other.0 learnt other.1)
ends_of_step ss from to (hop_step.Read write read) learnt t =
    let p = and_parts (not (is_same from to)) (is_named ss (op_of from write) (op_of to read)) t in
    let n = named ss (op_of from write) (op_of to read) p.1 in
    (node_of_op ss (op_of from write) (Write n.key n.wid) learnt n.writes, node_of_op ss (op_of to read) (Read n.key n.wid) learnt n.reads)

-- ---- paths
-- of one hop
pub alone : (ss : List ClientSession) (from : TxnAt) (hop : Hop) (to : TxnAt) (u v : ℕ) → is_path ss from (hop ∷ []) to ≡ true → Stands ss from u → Stands ss to v → (is_hop ss hop ≡ true) × Stands ss hop.from u × Stands ss hop.to v
alone ss from hop to u v t s r =
    let p = and_parts (is_same from hop.from && is_hop ss hop) (is_same hop.to to) t in
    let q = and_parts (is_same from hop.from) (is_hop ss hop) p.0 in
    (q.1, subst (λ at. Stands ss at u) (same_at from hop.from q.0) s, subst (λ at. Stands ss at v) (sym (same_at hop.to to p.1)) r)

pub one_hop : (hops : List Hop) → eqb (length hops) 1 ≡ true → (hop : Hop) × (hops ≡ hop ∷ [])
one_hop [] e = absurd (false≢true e)
one_hop (hop ∷ []) e = (hop, refl)
one_hop (hop ∷ next ∷ hops) e = absurd (let f = eqb-true (length (hop ∷ next ∷ hops)) 1 e in omega (arith, f))

pub past_of : (ss : List ClientSession) (from : TxnAt) (hop : Hop) (hops : List Hop) (to : TxnAt) (u v : ℕ) → IsSoundLog ss → IsLearntLog ss → is_path ss from (hop ∷ hops) to ≡ true → Stands ss from u → Stands ss to v → Past ss u v
past_of ss from hop [] to u v sound learnt t s r =
    let a = alone ss from hop to u v t s r in
    step u v (direct_of_step ss hop.from hop.to hop.step u v sound learnt a.0 a.1 a.2)
past_of ss from hop (next ∷ hops) to u v sound learnt t s r =
    let p = and_parts (is_same from hop.from && is_hop ss hop) (is_path ss hop.to (next ∷ hops) to) t in
    let q = and_parts (is_same from hop.from) (is_hop ss hop) p.0 in
    let mid = (ends_of_step ss hop.from hop.to hop.step learnt q.1).1 in
    path u mid.0 v (direct_of_step ss hop.from hop.to hop.step u mid.0 sound learnt q.1 (subst (λ at. Stands ss at u) (same_at from hop.from q.0) s) mid.1)
    (past_of ss hop.to next hops to mid.0 v sound learnt p.1 mid.1 r)
