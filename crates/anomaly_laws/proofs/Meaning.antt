-- What the reported anomaly says of its read, or of its two nodes.
use Rattle.anomaly_laws.proofs.Prelude.{◌≡◌, ◌≢◌, ◌⊎◌, ℕ, ◌+◌, ◌<◌, ◌≤◌, Bool, true, false, eqb, cond, List, [], ◌∷◌, ◌++◌, length, Option, None, Some, refl, sym, ap, ◌∙◌, subst, inl, inr, arith, map, is_some, AllByRecursion, list_any}
use Rattle.anomaly_laws.proofs.Prelude.{option_map, option_map_or, and_parts, eqb-false, Event, Read, Write, Anomaly, ReadAnomaly, Unknown, Aborted, Intermediate, OwnWriteMissed, Future, Split, Log, last_write, source, writes_as}
use Rattle.anomaly_laws.proofs.Prelude.{is_unknown, is_aborted, is_intermediate, is_other_read, external_anomaly, read_anomaly, places_from, places, anomaly_at, first_some, updates, lost_update, lost_updates, anomaly_of, wrote_is}
use Rattle.anomaly_laws.proofs.Prelude.{some_cases, none_not_some, ReadAt, IsExternal, IsUnknownRead, IsAbortedRead, IsIntermediateRead, IsOwnWriteMissed, IsFutureRead, IsSplitRead, IsNoAnomaly, IsUpdate}
use Rattle.serializability.specs.declared.anomaly.Anomaly.TheVariants as anomaly
use Rattle.anomaly_laws.proofs.Lists.{contains_at}
use Rattle.anomaly_laws.proofs.Writes.{writes_split, other_split}
use Rattle.anomaly_laws.proofs.Tests.{written_nowhere, aborted_writes, intermediate_write}
use Rattle.anomaly_laws.proofs.Listed.{NoReadAnomaly, place, each_none, each_of_places_from, mapped_none, reads_of_none, each_from_lost}
use Rattle.anomaly_laws.proofs.First.{or_some, of_first, first_node, FirstNode, first_operation, FirstOperation}

-- ---- the first read that is an anomaly
mapped_some : {X Y : Type 0} (f : X → Y) (o : Option X) (y : Y) → option_map f o ≡ Some y → (x : X) × ((o ≡ Some x) × (f x ≡ y))
mapped_some f None y e = cc
mapped_some f (Some x) y e = (x, (refl, cc))

-- the operation is a read, and the anomaly is its
record OfRead (log : Log) (v : ℕ) (before : List Event) (e : Event) (behind : List Event) (a : Anomaly) : Type 0 where
  pub key : ℕ
  pub identity : ℕ
  pub kind : ReadAnomaly
  pub event : e ≡ Read key identity
  pub is : read_anomaly log v before key identity behind (last_write key before) ≡ Some kind
  pub named : anomaly.Read kind v (length before + 1) ≡ a

of_read : (log : Log) (v : ℕ) (before : List Event) (e : Event) (behind : List Event) (a : Anomaly) → anomaly_at log (place v before e behind) ≡ Some a → OfRead log v before e behind a
of_read log v before (Write x w) behind a e = cc
of_read log v before (Read x w) behind a e =
    let m = mapped_some (λ (kind : ReadAnomaly). anomaly.Read kind v (length before + 1)) (read_anomaly log v before x w behind (last_write x before)) a e in
    record { key = x; identity = w; kind = m.0; event = refl; is = m.1.0; named = m.1.1 }

record FirstRead (log : Log) (a : Anomaly) : Type 0 where
  pub node : FirstNode (anomaly_at log) (λ v. places_from v [] (log.ops v)) 1 log.nodes a
  pub operation : FirstOperation (anomaly_at log) node.node [] (log.ops node.node) a
  pub read : OfRead log node.node operation.mid operation.event operation.behind a

first_read : (log : Log) (a : Anomaly) → first_some (map (anomaly_at log) (places log)) ≡ Some a → FirstRead log a
first_read log a e =
    let n = first_node (anomaly_at log) (λ v. places_from v [] (log.ops v)) 1 log.nodes a e in
    let o = first_operation (anomaly_at log) n.node [] (log.ops n.node) a n.here in
    record { node = n; operation = o; read = of_read log n.node o.mid o.event o.behind a o.here }

none_at : (log : Log) (v k : ℕ) (r : ReadAt log v k) → anomaly_at log (place v r.before (Read r.key r.identity) r.behind) ≡ None → IsNoAnomaly r
none_at log v k r e = mapped_none (λ (kind : ReadAnomaly). anomaly.Read kind v (length r.before + 1)) (read_anomaly log v r.before r.key r.identity r.behind (last_write r.key r.before)) e

none_before : (log : Log) (a : Anomaly) (f : FirstRead log a) (u j : ℕ) → (u < f.node.node) ⊎ ((u ≡ f.node.node) × (j < length f.operation.mid + 1)) → (r : ReadAt log u j) → IsNoAnomaly r
none_before log a f u j (inl lt) r =
    let none = each_none (anomaly_at log) (places_from u [] (log.ops u)) (f.node.earlier u (omega (arith, r.low)) lt) in
    none_at log u j r (each_of_places_from (λ p. anomaly_at log p ≡ None) u [] (log.ops u) r.before (Read r.key r.identity) r.behind none r.stands)
none_before log a f u j (inr here) r =
    let e : Event = Read r.key r.identity in
    let stands : log.ops f.node.node ≡ r.before ++ e ∷ r.behind = ap log.ops (sym here.0) ∙ r.stands in
    let none = f.operation.earlier r.before e r.behind stands (omega (arith, here.1, r.place)) in
    none_at log u j r (ap (λ v. anomaly_at log (place v r.before e r.behind)) here.0 ∙ none)

-- the read is an anomaly of this kind, and no read before it is one
record Reported (log : Log) (kind : ReadAnomaly) (v k : ℕ) : Type 0 where
  pub read : ReadAt log v k
  pub is : read_anomaly log v read.before read.key read.identity read.behind (last_write read.key read.before) ≡ Some kind
  pub first : (u j : ℕ) → (u < v) ⊎ ((u ≡ v) × (j < k)) → (r : ReadAt log u j) → IsNoAnomaly r

reported_read : (log : Log) (kind : ReadAnomaly) (v k : ℕ) → FirstRead log (anomaly.Read kind v k) → Reported log kind v k
reported_read log kind v k f =
    let o = f.operation in
    let r = f.read in
    let named = r.named in
    let same : r.kind ≡ kind = cc in
    let node : f.node.node ≡ v = cc in
    let op : length o.mid + 1 ≡ k = cc in
    record {
      read = record {
        key = r.key;
        identity = r.identity;
        before = o.mid;
        behind = o.behind;
        low = omega (arith, f.node.from, node);
        high = omega (arith, f.node.below, node);
        stands = ap log.ops (sym node) ∙ o.stands ∙ ap (λ e. o.mid ++ e ∷ o.behind) r.event;
        place = sym op;
      };
      is = ap (λ u. read_anomaly log u o.mid r.key r.identity o.behind (last_write r.key o.mid)) (sym node) ∙ r.is ∙ ap Some same;
      first = λ u j earlier. none_before log (anomaly.Read kind v k) f u j (elim earlier [
        | inl lt ↦ inl (omega (arith, lt, node))
        | inr here ↦ inr (here.0 ∙ sym node, omega (arith, here.1, op))
      ]);
    }

-- ---- the lost update that is reported
record Lost (log : Log) (a : Anomaly) : Type 0 where
  pub key : ℕ
  pub from : ℕ
  pub one : ℕ
  pub two : ℕ
  pub named : a ≡ lost_update key from (one, two)
  pub ascending : one < two
  pub first : IsUpdate log key from one
  pub second : IsUpdate log key from two

update : (log : Log) (x u v : ℕ) → 0 < v → v ≤ log.nodes → updates log x u v ≡ true → IsUpdate log x u v
update log x u v lo hi t =
    let p = and_parts (option_map_or (λ s. eqb s u) (source log v x) false) (is_some (last_write x (log.ops v))) t in
    record {
      low = lo;
      high = hi;
      reads = wrote_is (source log v x) u p.0;
      writes = elim (some_cases (last_write x (log.ops v))) [
        | inl e ↦ absurd (none_not_some (last_write x (log.ops v)) e p.1)
        | inr s ↦ s
      ];
    }

each_lost : (log : Log) → AllByRecursion (Lost log) (lost_updates log)
each_lost log = each_from_lost log (Lost log) (λ x u a b hx hu lo lt hi ta tb. record {
  key = x;
  from = u;
  one = a;
  two = b;
  named = refl;
  ascending = lt;
  first = update log x u a lo (omega arith) ta;
  second = update log x u b (omega arith) hi tb;
})

-- the anomaly is of the first read that is one, or a lost update, where no read is one
record LostAlone (log : Log) (a : Anomaly) : Type 0 where
  pub reads : NoReadAnomaly log
  pub lost : Lost log a

parts : (log : Log) (a : Anomaly) → anomaly_of log ≡ Some a → FirstRead log a ⊎ LostAlone log a
unfolding anomaly_of
parts log a e = elim (or_some (first_some (map (anomaly_at log) (places log))) (first_some (map (λ b. Some b) (lost_updates log))) a e) [
  | inl h ↦ inl (first_read log a h)
  | inr h ↦ inr (record { reads = reads_of_none log h.0; lost = of_first (Lost log) (lost_updates log) a (each_lost log) h.1 })
]

-- ---- what its kind says
abbrev Says : (log : Log) (v k : ℕ) → ReadAnomaly → ReadAt log v k → Type 0
Says log v k Unknown r = IsUnknownRead r
Says log v k Aborted r = IsAbortedRead r
Says log v k Intermediate r = IsIntermediateRead r
Says log v k OwnWriteMissed r = IsOwnWriteMissed r
Says log v k Future r = IsFutureRead r
Says log v k Split r = IsSplitRead r

kind_cases : (b : Bool) (a kind : ReadAnomaly) (rest : Option ReadAnomaly) → cond b (Some a) rest ≡ Some kind → ((b ≡ true) × (a ≡ kind)) ⊎ (rest ≡ Some kind)
kind_cases true a kind rest e = inl (refl, cc)
kind_cases false a kind rest e = inr e

external_says : (log : Log) (v k : ℕ) (r : ReadAt log v k) (kind : ReadAnomaly) → IsExternal r → external_anomaly log v r.before r.key r.identity r.behind ≡ Some kind → Says log v k kind r
external_says log v k r kind external e =
    let x = r.key in
    let w = r.identity in
    let as_said : (a : ReadAnomaly) → a ≡ kind → Says log v k a r → Says log v k kind r = λ a same says. subst (λ t. Says log v k t r) same says in
    elim (kind_cases (is_unknown log x w) Unknown kind _ e) [
      | inl h ↦ as_said Unknown h.1 (external, written_nowhere log x w h.0)
      | inr e1 ↦ elim (kind_cases (is_aborted log x w) Aborted kind _ e1) [
        | inl h ↦ as_said Aborted h.1 (external, aborted_writes log x w h.0)
        | inr e2 ↦ elim (kind_cases (writes_as x w r.behind) Future kind _ e2) [
          | inl h ↦ let s = writes_split x w r.behind h.0 in as_said Future h.1 (external, contains_at r.behind s.before (Write x w) s.behind s.stands)
          | inr e3 ↦ elim (kind_cases (is_intermediate log v x w) Intermediate kind _ e3) [
            | inl h ↦ as_said Intermediate h.1 (external, intermediate_write log v x w h.0)
            | inr e4 ↦ elim (kind_cases (list_any (is_other_read x w) r.before) Split kind None e4) [
              | inl h ↦ let s = other_split x w r.before h.0 in as_said Split h.1 (external, (s.other, contains_at r.before s.before (Read x s.other) s.behind s.stands, s.differs))
              | inr bad ↦ cc
            ]
          ]
        ]
      ]
    ]

internal_kind : (own w : ℕ) (b : Bool) (kind : ReadAnomaly) → eqb w own ≡ b → cond b None (Some OwnWriteMissed) ≡ Some kind → (OwnWriteMissed ≡ kind) × (own ≢ w)
internal_kind own w true kind t e = cc
internal_kind own w false kind t e = (cc, λ same. eqb-false w own t (sym same))

read_says : (log : Log) (v k : ℕ) (r : ReadAt log v k) (kind : ReadAnomaly) → read_anomaly log v r.before r.key r.identity r.behind (last_write r.key r.before) ≡ Some kind → Says log v k kind r
read_says log v k r kind e = elim (some_cases (last_write r.key r.before)) [
  | inl none ↦ external_says log v k r kind none (sym (ap (read_anomaly log v r.before r.key r.identity r.behind) none) ∙ e)
  | inr own ↦
      let i = internal_kind own.0 r.identity (eqb r.identity own.0) kind refl (sym (ap (read_anomaly log v r.before r.key r.identity r.behind) own.1) ∙ e) in
      subst (λ t. Says log v k t r) i.0 (own.0, own.1, i.1)
]

-- ---- both
reported : (log : Log) (kind : ReadAnomaly) (v k : ℕ) → anomaly_of log ≡ Some (anomaly.Read kind v k) → Reported log kind v k
reported log kind v k e = elim (parts log (anomaly.Read kind v k) e) [
  | inl h ↦ reported_read log kind v k h
  | inr p ↦ (let named = p.lost.named in cc)
]

pub kind_holds : (log : Log) (kind : ReadAnomaly) (v k : ℕ) → anomaly_of log ≡ Some (anomaly.Read kind v k) → (r : ReadAt log v k) × Says log v k kind r
kind_holds log kind v k e = let r = reported log kind v k e in (r.read, read_says log v k r.read kind r.is)

pub no_read_earlier : (log : Log) (kind : ReadAnomaly) (v k : ℕ) → anomaly_of log ≡ Some (anomaly.Read kind v k) → (u j : ℕ) → (u < v) ⊎ ((u ≡ v) × (j < k)) → (r : ReadAt log u j) → IsNoAnomaly r
no_read_earlier log kind v k e = (reported log kind v k e).first

lost_parts : (log : Log) (x u a b : ℕ) → anomaly_of log ≡ Some (anomaly.LostUpdate x u a b) → LostAlone log (anomaly.LostUpdate x u a b)
lost_parts log x u a b e = elim (parts log (anomaly.LostUpdate x u a b) e) [
  | inl f ↦ (let named = f.read.named in cc)
  | inr p ↦ p
]

pub both_update : (log : Log) (x u a b : ℕ) → anomaly_of log ≡ Some (anomaly.LostUpdate x u a b) → (a < b) × IsUpdate log x u a × IsUpdate log x u b
both_update log x u a b e =
    let l = (lost_parts log x u a b e).lost in
    let named = l.named in
    let key : l.key ≡ x = cc in
    let from : l.from ≡ u = cc in
    let one : l.one ≡ a = cc in
    let two : l.two ≡ b = cc in
    let at : (v w : ℕ) → v ≡ w → IsUpdate log l.key l.from v → IsUpdate log x u w =
    λ v w same h. subst (λ n. IsUpdate log x u n) same (subst (λ s. IsUpdate log x s v) from (subst (λ y. IsUpdate log y l.from v) key h)) in
    (omega (arith, l.ascending, one, two), at l.one a one l.first, at l.two b two l.second)

pub no_read_beside : (log : Log) (x u a b : ℕ) → anomaly_of log ≡ Some (anomaly.LostUpdate x u a b) → (v k : ℕ) (r : ReadAt log v k) → IsNoAnomaly r
no_read_beside log x u a b e v k r =
    (lost_parts log x u a b e).reads.each v r.key r.identity r.before r.behind r.low r.high r.stands
