-- What an external read finds, by the places of points.
use Rattle.std.proofs.Common.{◌≡◌, ◌≢◌, ◌⊎◌, ℕ, suc, ◌*◌, ◌<◌, ◌≤◌, Bool, true, false, List, ◌∷◌, length, map, eqb-true, Option, Some, None, refl, sym, ap, ◌∙◌, subst, inl, inr, arith, take}
use Rattle.std.specs.{List.Contains, Option.option_map_or}
use Rattle.std.proofs.lemmas.{Bool.cases_order, Bool.and_parts, Bool.false≢true, Slice.Eq.bytes_eq-Decides}
use Rattle.session_log.specs.Text.{ClientSession, Transaction}
use Rattle.session_log.specs.declared.session.{Op.TheVariants.Read, Op.TheVariants.Write}
use Rattle.serializability.proofs.{Places.Apart-from_IsDistinct, Once.places_apart, Serial.behind_zero}
use Rattle.log_definitions.specs.{Unknown.ops_in, WellFormed.written, Serial.committed_in, Serial.ops_of}
use Rattle.log_definitions.proofs.{Members.member, Chosen.Has-written}
use Rattle.log_laws.specs.Logs.{IsSoundLog, IsLearntLog}
use Rattle.point_laws.specs.Snapshot.{Point, snapshot, commit, number, IsPointOrder}
use Rattle.point_laws.proofs.{Arith.same_commit, Arith.commit_snapshot, Intervals.place, Nodes.is_node, Nodes.op_in_log}
use Rattle.point_laws.proofs.Orders.{before_place, lo_snapshot, lo_commit}
use Rattle.level_laws.{specs.Seen.WritesKey, proofs.Snapshots.met}
use Rattle.level_refutations.specs.declared.evidence.OpAt.{OpAt}
use Rattle.level_refutations.specs.{Places.txn_at, Places.op_at, Places.is_named, Places.is_external_in, Places.is_external, Places.is_of_key, Laws.Stands}
use Rattle.level_refutations.proofs.{Standing.standing, Standing.within, Steps.has_op, Steps.node_of_op, Steps.named}
use Rattle.level_refutations.proofs.Sights.{External, external_at, of_key, same_read}
use Rattle.level_refutations.proofs.Forced.{last_written, wrote_once}
use Rattle.point_refutations.specs.Edges.{both_are, reads_same, is_same_read}

-- ---- an order of points, where keys are locked or not
pub record Given (ss : List ClientSession) : Type 0 where
  pub locked : Bool
  pub points : List Point
  pub is : IsPointOrder locked ss points
  pub sound : IsSoundLog ss
  pub learnt : IsLearntLog ss

pub begins : (ss : List ClientSession) (g : Given ss) (v : ℕ) → (0 < v) × (v ≤ length (committed_in ss)) → place g.points (snapshot v) < place g.points (commit v)
begins ss g v is = before_place g.points (snapshot v) (commit v) (lo_snapshot v is.0) (lo_commit v is.0) (g.is.begins v is.0 is.1)

-- a commit that does not stand before a snapshot stands behind it
behind : (ss : List ClientSession) (g : Given ss) (u v : ℕ) → (0 < u) × (u ≤ length (committed_in ss)) → 0 < v → (place g.points (commit u) < place g.points (snapshot v) → ⊥) → place g.points (snapshot v) < place g.points (commit u)
behind ss g u v is lo never = elim (cases_order (place g.points (commit u)) (place g.points (snapshot v))) [
  | inl same ↦ absurd (differ same)
  | inr apart ↦ elim apart [
    | inl less ↦ absurd (never less)
    | inr more ↦ more
  ]
]
  where
    high : number (commit u) ≤ 2 * length (committed_in ss)
    high = let hi = is.1 in omega (arith, hi)

    differ : place g.points (commit u) ≡ place g.points (snapshot v) → ⊥
    differ same =
        places_apart (2 * length (committed_in ss)) (map number g.points) g.is.once (number (commit u)) (number (snapshot v)) high (commit_snapshot u v lo)
        (behind_zero (map number g.points) (number (commit u)) (lo_commit u is.0) ∙ ap suc same ∙ sym (behind_zero (map number g.points) (number (snapshot v)) (lo_snapshot v lo)))

-- of two nodes one commits first
pub one_commits : (ss : List ClientSession) (g : Given ss) (u v : ℕ) → (0 < u) × (u ≤ length (committed_in ss)) → 0 < v → u ≢ v → (place g.points (commit u) < place g.points (commit v)) ⊎ (place g.points (commit v) < place g.points (commit u))
one_commits ss g u v is lo apart = elim (cases_order (place g.points (commit u)) (place g.points (commit v))) [
  | inl same ↦ absurd (differ same)
  | inr less ↦ less
]
  where
    high : number (commit u) ≤ 2 * length (committed_in ss)
    high = let hi = is.1 in omega (arith, hi)

    differ : place g.points (commit u) ≡ place g.points (commit v) → ⊥
    differ same =
        places_apart (2 * length (committed_in ss)) (map number g.points) g.is.once (number (commit u)) (number (commit v)) high (λ e. apart (same_commit u v e))
        (behind_zero (map number g.points) (number (commit u)) (lo_commit u is.0) ∙ ap suc same ∙ sym (behind_zero (map number g.points) (number (commit v)) (lo_commit v lo)))

-- ---- an external read
-- node v finds what node t writes, and whoever overwrites it commits behind the snapshot
pub record Finds (ss : List ClientSession) (g : Given ss) (v : ℕ) (key : List ℕ) (wid t : ℕ) : Type 0 where
  pub writes : Contains (ops_of ss t) (Write key wid)
  pub before : place g.points (commit t) < place g.points (snapshot v)
  pub last : (b : ℕ) → WritesKey ss b key → place g.points (commit t) < place g.points (commit b) → place g.points (snapshot v) < place g.points (commit b)

-- or the initial value
abbrev pub FindsInitial : (ss : List ClientSession) → Given ss → ℕ → List ℕ → ℕ → Type 0
FindsInitial ss g v key wid = (wid ≡ 0) × ((b : ℕ) → WritesKey ss b key → place g.points (snapshot v) < place g.points (commit b))

pub finds : (ss : List ClientSession) (g : Given ss) (at : OpAt) (v : ℕ) (e : External ss at v) → Stands ss at.txn v → FindsInitial ss g v e.key e.wid ⊎ ((t : ℕ) × Finds ss g v e.key e.wid t)
finds ss g at v e s = elim (met ss g.points g.is v (take at.op (ops_of ss v)) e.key e.wid e.reads e.external) [
  | inl zero ↦ inl (zero.0, (λ b w. behind ss g b v (is_node ss b (Write e.key w.0) w.1) lo (λ lt. zero.1 b w lt)))
  | inr (t, is) ↦ inr (
    t,
    record {
      writes = last_written e.key (ops_of ss t) e.wid is.final;
      before = is.before;
      last = λ b w after. behind ss g b v (is_node ss b (Write e.key w.0) w.1) lo (λ lt. (let first = is.last b (other t b after) w lt in omega (arith, first, after)));
    },
  )
]
  where
    lo : 0 < v
    lo = (within ss at.txn v s).0

    other : (t b : ℕ) → place g.points (commit t) < place g.points (commit b) → b ≡ t → ⊥
    other t b after same = let again = subst (λ x. place g.points (commit t) < place g.points (commit x)) same after in omega (arith, again)

-- nobody writes 0
pub writes_zero : (ss : List ClientSession) → IsSoundLog ss → (u : ℕ) (key : List ℕ) → Contains (ops_of ss u) (Write key 0) → ⊥
writes_zero ss sound u key c =
    (Apart-from_IsDistinct (0 ∷ written (ops_in ss)) sound.writes).0 (Has-written (ops_in ss) key 0 (member (Contains (ops_in ss)) (ops_of ss u) (Write key 0) (op_in_log ss u) c))

-- what is named is found
pub finds_write : (ss : List ClientSession) (g : Given ss) (at : OpAt) (v : ℕ) (e : External ss at v) → Stands ss at.txn v → (u : ℕ) → Contains (ops_of ss u) (Write e.key e.wid) → Finds ss g v e.key e.wid u
finds_write ss g at v e s u wrote = elim (finds ss g at v e s) [
  | inl zero ↦ absurd (writes_zero ss g.sound u e.key (subst (λ w. Contains (ops_of ss u) (Write e.key w)) zero.0 wrote))
  | inr (t, is) ↦ subst (Finds ss g v e.key e.wid) (wrote_once ss g.sound t u e.key e.key e.wid is.writes wrote) is
]

-- ---- who reads and writes at places
pub some_where : {X : Type 0} (f : X → Bool) (o : Option X) → option_map_or f o false ≡ true → (x : X) × (o ≡ Some x) × (f x ≡ true)
some_where f None t = absurd (false≢true t)
some_where f (Some x) t = (x, refl, t)

-- both are there, and stand so
pub record There {A : Type 0} (f : A → A → Bool) (a b : Option A) : Type 0 where
  pub one : A
  pub other : A
  pub first : a ≡ Some one
  pub second : b ≡ Some other
  pub so : f one other ≡ true

pub there : {A : Type 0} (f : A → A → Bool) (a b : Option A) → both_are f a b ≡ true → There f a b
there f (Some x) (Some y) t = record { one = x; other = y; first = refl; second = refl; so = t }
there f (Some x) None t = absurd (false≢true t)
there f None b t = absurd (false≢true t)

pub record Reader (ss : List ClientSession) (at : OpAt) : Type 0 where
  pub node : ℕ
  pub stands : Stands ss at.txn node
  pub read : External ss at node

pub reader : (ss : List ClientSession) (at : OpAt) → IsLearntLog ss → is_external ss at ≡ true → Reader ss at
reader ss at learnt t =
    let m = some_where (λ (x : Transaction). is_external_in x.ops at.op) (txn_at ss at.txn) t in
    let n = standing ss at.txn m.0 learnt m.1 in
    record { node = n.0; stands = n.1; read = external_at ss at n.0 t n.1 }

pub record Writer (ss : List ClientSession) (at : OpAt) (key : List ℕ) (wid : ℕ) : Type 0 where
  pub node : ℕ
  pub stands : Stands ss at.txn node
  pub wrote : Contains (ops_of ss node) (Write key wid)

-- of what a read names
pub writer : (ss : List ClientSession) (write read : OpAt) (v : ℕ) (e : External ss read v) → IsLearntLog ss → is_named ss write read ≡ true → Writer ss write e.key e.wid
writer ss write read v e learnt t =
    let n = named ss write read t in
    let u = node_of_op ss write (Write n.key n.wid) learnt n.writes in
    let same = same_read e.key n.key e.wid n.wid (sym e.stands ∙ n.reads) in
    let stands : op_at ss write ≡ Some (Write e.key e.wid) = n.writes ∙ ap (λ l. Some (Write l n.wid)) (sym same.0) ∙ ap (λ w. Some (Write e.key w)) (sym same.1) in
    record { node = u.0; stands = u.1; wrote = has_op ss write (Write e.key e.wid) u.0 u.1 stands }

-- of its key
pub writer_of_key : (ss : List ClientSession) (write read : OpAt) (v : ℕ) (e : External ss read v) → IsLearntLog ss → is_of_key ss write read ≡ true → (wid : ℕ) × Writer ss write e.key wid
writer_of_key ss write read v e learnt t =
    let k = of_key ss write read t in
    let u = node_of_op ss write (Write k.key k.other) learnt k.writes in
    let same = same_read e.key k.key e.wid k.wid (sym e.stands ∙ k.reads) in
    let stands : op_at ss write ≡ Some (Write e.key k.other) = k.writes ∙ ap (λ l. Some (Write l k.other)) (sym same.0) in
    (k.other, record { node = u.0; stands = u.1; wrote = has_op ss write (Write e.key k.other) u.0 u.1 stands })

pub same_reads : (ss : List ClientSession) (one other : OpAt) (u v : ℕ) (e : External ss one u) (f : External ss other v) → is_same_read ss one other ≡ true → (e.key ≡ f.key) × (e.wid ≡ f.wid)
same_reads ss one other u v e f t =
    let same : reads_same (Read e.key e.wid) (Read f.key f.wid) ≡ true = ap (λ o. both_are reads_same o (Some (Read f.key f.wid))) (sym e.stands) ∙ ap (both_are reads_same (op_at ss one)) (sym f.stands) ∙ t in
    let p = and_parts _ _ same in
    ((bytes_eq-Decides e.key f.key).0 p.0, eqb-true e.wid f.wid p.1)
