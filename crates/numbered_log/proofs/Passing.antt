-- Transactions and sessions are passed, one after the other.
use Rattle.numbered_log.proofs.Prelude.{◌≡◌, ◌≢◌, ◌⊎◌, ℕ, zero, suc, ◌+◌, ◌<◌, ◌≤◌, Bool, true, false, eqb, eq-eqb, ne_eqb, List, [], ◌∷◌, ◌++◌, length, get_or, take, map, Some, refl, sym, ap, ◌∙◌, subst, inl, inr, arith, append_assoc}
use Rattle.numbered_log.proofs.Prelude.{slice_get, slice_index, OnOk, Result, Ok, Err, flat_map, AllByRecursion, Contains, cases_Bool, cases_eq, cond-true, cond-false, map-append, length-append, slice_get_within, get_or_from_slice_get}
use Rattle.numbered_log.proofs.Prelude.{append_none, front_more, behind, ClientSession, Transaction, key_of, Op, settle, settled_as, is_committed, ops_in, txns_in, settled, taken, resolved, first_seen, keys_in, Committed, committed_of}
use Rattle.numbered_log.proofs.Prelude.{committed_in, IsLearnt, nodes_from, Node, Moments, Event, Read, Write, Store, write, Making, between, begun_in, ended_in, Grows, EachStands, IsNode, AreWriters, Extends, AddsOps, AddsMoments, IsMade}
use Rattle.numbered_log.proofs.Prelude.{keys_of, ids_of, writers_of, all_noted, node_at, node_of, session_as}
use Rattle.std.proofs.Math.Path.{fun_ext}
use Rattle.std.proofs.lemmas.Grind.{flat_map-append}
use Rattle.session_log.specs.declared.session.Outcome.{Outcome}
use Rattle.session_log.specs.declared.session.Outcome.TheVariants.{Commit, Abort, Unknown}
use Rattle.log_laws.proofs.Shifted.{nodes_are}
use Rattle.serializability.specs.Events.{event_wid}
use Rattle.log_laws.proofs.Lists.{first_or_behind}
use Rattle.numbered_log.specs.declared.versions.VersionNumbers.{VersionNumbers}
use Rattle.numbered_log.proofs.Tables.{pushed_at, pushed_before, pushed_cases}
use Rattle.numbered_log.proofs.Seen.{seen_append}
use Rattle.numbered_log.proofs.Growing.{keys_grow, each_grown, between_before, between_all}

-- the keys of what is passed
passed_keys : (numbers : List ℕ) (seen more : List Op) (txns : List Committed) (old new : Making) → IsMade numbers seen txns old → Extends old.numbers new.numbers (map key_of more) → keys_of new.numbers ≡ first_seen [] (map key_of (seen ++ more))
passed_keys numbers seen more txns old new m e =
    e.keys ∙ ap (λ s. first_seen s (map key_of more)) m.keys ∙ sym (seen_append [] (map key_of seen) (map key_of more)) ∙ ap (first_seen []) (sym (map-append key_of seen more))

-- a node stays what it is
node_kept : (numbers : List ℕ) (keys keys2 : List (List ℕ)) (ids ids2 : List ℕ) (ops added : List Event) (moments moments2 : List Moments) (v : ℕ) (node : Node) (txn : Committed) → Grows keys keys2 → Grows ids ids2 → node.behind ≤ length ops → begun_in moments2 v ≡ begun_in moments v → ended_in moments2 v ≡ ended_in moments v
    → IsNode numbers keys ids ops moments v node txn → IsNode numbers keys2 ids2 (ops ++ added) moments2 v node txn
node_kept numbers keys keys2 ids ids2 ops added moments moments2 v node txn g h le b e is = record {
  session = is.session;
  place = is.place;
  ops = subst (λ l. EachStands keys2 ids2 l txn.ops) (sym (between_before ops added node.first node.behind le)) (each_grown keys keys2 ids ids2 g h (between ops node.first node.behind) txn.ops is.ops);
  begun = b ∙ is.begun;
  ended = e ∙ is.ended;
}

-- ---- who wrote each version
-- a version is as it was and not written here, or it is written here
abbrev Unwritten : List Event → ℕ → Type 0
Unwritten ns v = (k : ℕ) → Contains ns (Write k v) → ⊥

same_write : (k l u v : ℕ) → Write k u ≡ Write l v → u ≡ v
same_write k l u v e = ap event_wid e

noted_cases : (node : ℕ) (ns : List Event) (writers : Store) (v : ℕ) → ((all_noted node ns writers v ≡ writers v) × Unwritten ns v) ⊎ ((all_noted node ns writers v ≡ node) × ((k : ℕ) × Contains ns (Write k v)))
noted_cases node [] writers v = inl (refl, λ k c. absurd (omega (arith, c.1)))
noted_cases node (Read k u ∷ ns) writers v = elim (noted_cases node ns writers v) [
  | inl h ↦ inl (h.0, λ l c. elim (first_or_behind (Read k u) ns (Write l v) c) [ inl e ↦ cc | inr d ↦ h.1 l d ])
  | inr h ↦ inr (h.0, (h.1.0, behind (Read k u) ns (Write h.1.0 v) h.1.1))
]
noted_cases node (Write k u ∷ ns) writers v = elim (noted_cases node ns (write writers u node) v) [
  | inl h ↦ elim (cases_eq u v) [
    | inl same ↦ inr (h.0 ∙ cond-true (eqb u v) node (writers v) (eq-eqb u v same), (k, (0, omega arith, ap (Write k) same)))
    | inr ne ↦ inl (h.0 ∙ cond-false (eqb u v) node (writers v) (ne_eqb u v ne), λ l c. elim (first_or_behind (Write k u) ns (Write l v) c) [ inl e ↦ ne (same_write k l u v e) | inr d ↦ h.1 l d ])
  ]
  | inr h ↦ inr (h.0, (h.1.0, behind (Write k u) ns (Write h.1.0 v) h.1.1))
]

-- ---- a transaction that is no node
pub keys_passed : (numbers : List ℕ) (seen more : List Op) (txns : List Committed) (old new : Making) → IsMade numbers seen txns old → Extends old.numbers new.numbers (map key_of more) → new.numbers.versions ≡ old.numbers.versions → new.ops ≡ old.ops → new.nodes ≡ old.nodes → new.moments ≡ old.moments → IsMade numbers (seen ++ more) txns new
keys_passed numbers seen more txns old new m e versions ops nodes moments =
    let g = keys_grow old.numbers new.numbers (map key_of more) e in
    let same_ops : new.ops.items ≡ old.ops.items = ap (λ v. v.items) ops in
    let same_nodes : new.nodes.items ≡ old.nodes.items = ap (λ v. v.items) nodes in
    let same_moments : new.moments.items ≡ old.moments.items = ap (λ v. v.items) moments in
    record {
      keys = passed_keys numbers seen more txns old new m e;
      initial = e.versions.kept 0 0 m.initial;
      nodes = record {
        count = ap length same_nodes ∙ m.nodes.count;
        each = λ i node txn at is.
            (let was = ap (λ l. slice_get l i) (sym same_nodes) ∙ at in
            subst (λ l. IsNode numbers (keys_of new.numbers) (ids_of new.numbers) l new.moments.items (suc i) node txn) (sym (append_none old.ops.items) ∙ sym same_ops)
            (node_kept numbers (keys_of old.numbers) (keys_of new.numbers) (ids_of old.numbers) (ids_of new.numbers) old.ops.items [] old.moments.items new.moments.items (suc i) node txn g e.versions (m.within i node was)
            (ap (λ l. begun_in l (suc i)) same_moments) (ap (λ l. ended_in l (suc i)) same_moments) (m.nodes.each i node txn was is)));
      };
      within = λ i node at. (
          let le = m.within i node (ap (λ l. slice_get l i) (sym same_nodes) ∙ at) in
          let long = ap length same_ops in
          omega (arith, le, long));
      few = (let le = m.few in let n = ap length same_nodes in let l = ap length same_moments in omega (arith, le, n, l));
      writers = subst (λ (o : List Event). AreWriters o new.nodes.items (writers_of new.numbers)) (sym same_ops)
          (subst (λ (o : List Node). AreWriters old.ops.items o (writers_of new.numbers)) (sym same_nodes)
          (subst (λ (v : VersionNumbers). AreWriters old.ops.items old.nodes.items (λ x. slice_index v.writers.items x)) (sym versions) m.writers));
    }

-- ---- a node
pub record AddsNode (numbers : List ℕ) (old new : Making) (more : List Op) (node : Node) (txn : Committed) (stated : Moments) : Type 0 where
  pub extends : Extends old.numbers new.numbers (map key_of more)
  pub ops : AddsOps (suc (length old.nodes.items)) old.numbers new.numbers old.ops.items new.ops.items more
  pub moments : AddsMoments old.moments.items new.moments.items (length old.nodes.items) stated
  pub nodes : new.nodes.items ≡ old.nodes.items ++ node ∷ []
  pub first : node.first ≡ length old.ops.items
  pub behind : node.behind ≡ length new.ops.items
  pub session : slice_get numbers node.session ≡ Some txn.session
  pub place : node.place ≡ txn.place
  pub own : more ≡ txn.ops
  pub begun : stated.begun ≡ txn.begun
  pub ended : stated.ended ≡ txn.ended

pub node_passed : (numbers : List ℕ) (seen more : List Op) (txns : List Committed) (old new : Making) (node : Node) (txn : Committed) (moments : Moments) → IsMade numbers seen txns old → AddsNode numbers old new more node txn moments → IsMade numbers (seen ++ more) (txns ++ txn ∷ []) new
node_passed numbers seen more txns old new node txn moments m a =
    let g = keys_grow old.numbers new.numbers (map key_of more) a.extends in
    let grown = a.ops.is in
    let longer : length new.ops.items ≡ length old.ops.items + length a.ops.added = ap length grown ∙ length-append old.ops.items a.ops.added in
    let one_more : length new.nodes.items ≡ length old.nodes.items + 1 = ap length a.nodes ∙ length-append old.nodes.items (node ∷ []) in
    let next : length old.nodes.items + 1 ≡ suc (length old.nodes.items) = omega arith in
    record {
      keys = passed_keys numbers seen more txns old new m a.extends;
      initial = a.extends.versions.kept 0 0 m.initial;
      nodes = record {
        count = one_more ∙ ap (λ n. n + 1) m.nodes.count ∙ sym (length-append txns (txn ∷ []));
        each = λ i n t at is. elim (pushed_cases old.nodes.items node i n (ap (λ l. slice_get l i) (sym a.nodes) ∙ at)) [
          | inl was ↦ elim (pushed_cases txns txn i t is) [
            | inl is_was ↦
                let lt = slice_get_within old.nodes.items i n was in
                subst (λ l. IsNode numbers (keys_of new.numbers) (ids_of new.numbers) l new.moments.items (suc i) n t) (sym grown)
                (node_kept numbers (keys_of old.numbers) (keys_of new.numbers) (ids_of old.numbers) (ids_of new.numbers) old.ops.items a.ops.added old.moments.items new.moments.items (suc i) n t g a.extends.versions (m.within i n was)
                (a.moments.others_begun (suc i) (omega (arith, lt))) (a.moments.others_ended (suc i) (omega (arith, lt))) (m.nodes.each i n t was is_was))
            | inr last ↦ absurd (let lt = slice_get_within old.nodes.items i n was in let c = m.nodes.count in let e = last.0 in omega (arith, lt, c, e))
          ]
          | inr now ↦ elim (pushed_cases txns txn i t is) [
            | inl is_was ↦ absurd (let lt = slice_get_within txns i t is_was in let c = m.nodes.count in let e = now.0 in omega (arith, lt, c, e))
            | inr last ↦
                let here : suc i ≡ length old.nodes.items + 1 = ap suc now.0 ∙ sym next in
                let range : between new.ops.items node.first node.behind ≡ a.ops.added =
                ap (λ f. between new.ops.items f node.behind) a.first ∙ ap (between new.ops.items (length old.ops.items)) a.behind
                ∙ ap (λ l. between l (length old.ops.items) (length l)) grown ∙ between_all old.ops.items a.ops.added in
                let own : IsNode numbers (keys_of new.numbers) (ids_of new.numbers) new.ops.items new.moments.items (suc i) node txn = record {
                  session = a.session;
                  place = a.place;
                  ops = subst (λ l. EachStands (keys_of new.numbers) (ids_of new.numbers) l txn.ops) (sym range) (subst (EachStands (keys_of new.numbers) (ids_of new.numbers) a.ops.added) a.own a.ops.stands);
                  begun = ap (begun_in new.moments.items) here ∙ a.moments.begun ∙ a.begun;
                  ended = ap (ended_in new.moments.items) here ∙ a.moments.ended ∙ a.ended;
                } in
                subst (λ u. IsNode numbers (keys_of new.numbers) (ids_of new.numbers) new.ops.items new.moments.items (suc i) n u) (sym last.1)
                (subst (λ u. IsNode numbers (keys_of new.numbers) (ids_of new.numbers) new.ops.items new.moments.items (suc i) u txn) (sym now.1) own)
          ]
        ];
      };
      within = λ i n at. elim (pushed_cases old.nodes.items node i n (ap (λ l. slice_get l i) (sym a.nodes) ∙ at)) [
        | inl was ↦ (let le = m.within i n was in omega (arith, le, longer))
        | inr now ↦ (let e : n.behind ≡ node.behind = ap (λ (u : Node). u.behind) now.1 in let b = a.behind in omega (arith, e, b))
      ];
      few = (let r = a.moments.room in omega (arith, r, one_more));
      writers = writers;
    }
  where
    grown : new.ops.items ≡ old.ops.items ++ a.ops.added
    grown = a.ops.is

    range : between new.ops.items node.first node.behind ≡ a.ops.added
    range = ap (λ f. between new.ops.items f node.behind) a.first ∙ ap (between new.ops.items (length old.ops.items)) a.behind
        ∙ ap (λ l. between l (length old.ops.items) (length l)) grown ∙ between_all old.ops.items a.ops.added

    kept : (i : ℕ) (n : Node) → slice_get old.nodes.items i ≡ Some n → between new.ops.items n.first n.behind ≡ between old.ops.items n.first n.behind
    kept i n was = ap (λ l. between l n.first n.behind) grown ∙ between_before old.ops.items a.ops.added n.first n.behind (m.within i n was)

    now : (v : ℕ) → writers_of new.numbers v ≡ all_noted (suc (length old.nodes.items)) a.ops.added (writers_of old.numbers) v
    now v = ap (λ (w : Store). w v) a.ops.writers

    writers : AreWriters new.ops.items new.nodes.items (writers_of new.numbers)
    writers = record {
      named = λ v i e. elim (noted_cases (suc (length old.nodes.items)) a.ops.added (writers_of old.numbers) v) [
        | inl h ↦
            let w = m.writers.named v i (sym h.0 ∙ sym (now v) ∙ e) in
            record {
              node = w.node;
              key = w.key;
              at = ap (λ l. slice_get l i) a.nodes ∙ pushed_before old.nodes.items (node ∷ []) i w.node w.at;
              writes = subst (λ l. Contains l (Write w.key v)) (sym (kept i w.node w.at)) w.writes;
            }
        | inr h ↦
            let number : suc i ≡ suc (length old.nodes.items) = sym e ∙ now v ∙ h.0 in
            let index : i ≡ length old.nodes.items = omega (arith, number) in
            record {
              node = node;
              key = h.1.0;
              at = ap (λ l. slice_get l i) a.nodes ∙ ap (slice_get (old.nodes.items ++ node ∷ [])) index ∙ pushed_at old.nodes.items node;
              writes = subst (λ l. Contains l (Write h.1.0 v)) (sym range) h.1.1;
            }
      ];
      written = λ v i w. elim (noted_cases (suc (length old.nodes.items)) a.ops.added (writers_of old.numbers) v) [
        | inl h ↦ elim (pushed_cases old.nodes.items node i w.node (ap (λ l. slice_get l i) (sym a.nodes) ∙ w.at)) [
          | inl was ↦
              let lt = m.writers.written v i (record { node = w.node; key = w.key; at = was; writes = subst (λ l. Contains l (Write w.key v)) (kept i w.node was) w.writes }) in
              let same = h.0 in
              let is = now v in
              omega (arith, lt, same, is)
          | inr last ↦
              let own : Contains (between new.ops.items node.first node.behind) (Write w.key v) = subst (λ (n : Node). Contains (between new.ops.items n.first n.behind) (Write w.key v)) last.1 w.writes in
              absurd (h.1 w.key (subst (λ l. Contains l (Write w.key v)) range own))
        ]
        | inr h ↦ (let is = now v in let e = h.0 in omega (arith, is, e))
      ];
    }

-- ---- a transaction
pub is_one : (number place : ℕ) (t : Transaction) → is_committed t ≡ true → node_of number place t ≡ node_at number place t ∷ []
is_one number place t e = cond-true (is_committed t) (node_at number place t ∷ []) [] e

pub is_none : (number place : ℕ) (t : Transaction) → is_committed t ≡ false → node_of number place t ≡ []
is_none number place t e = cond-false (is_committed t) (node_at number place t ∷ []) [] e

pub ok_weaker : {A E : Type 0} (r : Result A E) (P Q : Type 0) → (P → Q) → OnOk r P → OnOk r Q
ok_weaker (Ok x) P Q f p = f p
ok_weaker (Err e) P Q f p = tt

pub none_more : (txns : List Committed) (number place : ℕ) (t : Transaction) → is_committed t ≡ false → txns ≡ txns ++ node_of number place t
none_more txns number place t e = append_none txns ∙ ap (λ l. txns ++ l) (sym (is_none number place t e))

pub one_more : (txns : List Committed) (number place : ℕ) (t : Transaction) → is_committed t ≡ true → txns ++ node_at number place t ∷ [] ≡ txns ++ node_of number place t
one_more txns number place t e = ap (λ l. txns ++ l) (sym (is_one number place t e))

-- ---- the transactions of a session
nodes_append : (number n : ℕ) (ts us : List Transaction) → nodes_from number n (ts ++ us) ≡ nodes_from number n ts ++ nodes_from number (n + length ts) us
nodes_append number n [] us = let same : n ≡ n + 0 = omega arith in ap (λ m. nodes_from number m us) same
nodes_append number n (t ∷ ts) us =
    let same : (n + 1) + length ts ≡ n + suc (length ts) = omega arith in
    let ih = nodes_append number (n + 1) ts us ∙ ap (λ m. nodes_from number (n + 1) ts ++ nodes_from number m us) same in
    elim (cases_Bool (is_committed t)) [
      | inl e ↦ rw e (ap (λ l. node_at number n t ∷ l) ih)
      | inr e ↦ rw e ih
    ]

one_from : (number n : ℕ) (t : Transaction) → nodes_from number n (t ∷ []) ≡ node_of number n t
one_from number n t = elim (cases_Bool (is_committed t)) [
  | inl e ↦ rw e refl
  | inr e ↦ rw e refl
]

taken_length : {X : Type 0} (i : ℕ) (xs : List X) → i ≤ length xs → length (take i xs) ≡ i
taken_length zero xs le = refl
taken_length (suc i) [] le = absurd (omega (arith, le))
taken_length (suc i) (x ∷ xs) le = ap suc (taken_length i xs (omega (arith, le)))

pub nodes_more : (number : ℕ) (ts : List Transaction) (i : ℕ) (t : Transaction) → i < length ts → t ≡ get_or ts i t → nodes_from number 1 (take (i + 1) ts) ≡ nodes_from number 1 (take i ts) ++ node_of number (i + 1) t
nodes_more number ts i t lt is =
    let place : 1 + length (take i ts) ≡ i + 1 = (let n = taken_length i ts (omega (arith, lt)) in omega (arith, n)) in
    ap (nodes_from number 1) (front_more ts i t lt is)
    ∙ nodes_append number 1 (take i ts) (t ∷ [])
    ∙ ap (λ l. nodes_from number 1 (take i ts) ++ l) (one_from number (1 + length (take i ts)) t ∙ ap (λ n. node_of number n t) place)

pub ops_more : (ts : List Transaction) (i : ℕ) (t : Transaction) → i < length ts → t ≡ get_or ts i t → flat_map (λ (u : Transaction). u.ops) (take (i + 1) ts) ≡ flat_map (λ (u : Transaction). u.ops) (take i ts) ++ t.ops
ops_more ts i t lt is =
    ap (flat_map (λ (u : Transaction). u.ops)) (front_more ts i t lt is)
    ∙ flat_map-append (λ (u : Transaction). u.ops) (take i ts) (t ∷ [])
    ∙ ap (λ l. flat_map (λ (u : Transaction). u.ops) (take i ts) ++ l) (sym (append_none t.ops))

-- ---- the sessions
pub session_ops_more : (ss : List ClientSession) (i : ℕ) (s : ClientSession) → i < length ss → s ≡ get_or ss i s → ops_in (take (i + 1) ss) ≡ ops_in (take i ss) ++ flat_map (λ (u : Transaction). u.ops) s.txns
session_ops_more ss i s lt is =
    ap ops_in (front_more ss i s lt is)
    ∙ ap (flat_map (λ (u : Transaction). u.ops)) (flat_map-append (λ (x : ClientSession). x.txns) (take i ss) (s ∷ []) ∙ ap (λ l. txns_in (take i ss) ++ l) (sym (append_none s.txns)))
    ∙ flat_map-append (λ (u : Transaction). u.ops) (txns_in (take i ss)) s.txns

pub session_nodes_more : (f : ClientSession → List Committed) (ss : List ClientSession) (i : ℕ) (s : ClientSession) → i < length ss → s ≡ get_or ss i s → flat_map f (take (i + 1) ss) ≡ flat_map f (take i ss) ++ f s
session_nodes_more f ss i s lt is =
    ap (flat_map f) (front_more ss i s lt is)
    ∙ flat_map-append f (take i ss) (s ∷ [])
    ∙ ap (λ l. flat_map f (take i ss) ++ l) (sym (append_none (f s)))

-- the nodes of a session, where its unknown transaction counts as committed if it is chosen
abbrev pub nodes_as : (ℕ → Bool) → ClientSession → List Committed
nodes_as chosen s = committed_of (session_as (chosen s.number) s)

pub nodes_settled : (chosen : ℕ → Bool) (ss : List ClientSession) → flat_map (nodes_as chosen) ss ≡ flat_map committed_of (settled chosen ss)
unfolding settled
nodes_settled chosen [] = refl
nodes_settled chosen (s ∷ ss) = ap (λ l. nodes_as chosen s ++ l) (nodes_settled chosen ss)

-- those that are taken are the nodes of the log
pub nodes_taken : (chosen : ℕ → Bool) (ss : List ClientSession) → ((n : ℕ) → chosen n ≡ taken ss n) → flat_map committed_of (settled chosen ss) ≡ committed_in ss
unfolding committed_in resolved
nodes_taken chosen ss h = ap (λ (f : ℕ → Bool). flat_map committed_of (settled f ss)) (fun_ext h)

-- and so are all, where the outcomes are known
outcome_stays : (b : Bool) (o : Outcome) → o ≢ Unknown → settled_as b o ≡ o
outcome_stays b Commit h = refl
outcome_stays b Abort h = refl
outcome_stays b Unknown h = absurd (h refl)

txns_stay : (b : Bool) (ts : List Transaction) → AllByRecursion IsLearnt ts → map (settle b) ts ≡ ts
txns_stay b [] h = refl
txns_stay b (t ∷ ts) h =
    ap (λ o. record { ops = t.ops; outcome = o; begun = t.begun; ended = t.ended } ∷ map (settle b) ts) (outcome_stays b t.outcome h.0) ∙ ap (λ l. t ∷ l) (txns_stay b ts h.1)

nodes_stay : (chosen : ℕ → Bool) (ss : List ClientSession) → AllByRecursion (λ (s : ClientSession). AllByRecursion IsLearnt s.txns) ss → flat_map (nodes_as chosen) ss ≡ flat_map committed_of ss
nodes_stay chosen [] h = refl
nodes_stay chosen (s ∷ ss) h = ap (λ ts. nodes_from s.number 1 ts ++ flat_map (nodes_as chosen) ss) (txns_stay (chosen s.number) s.txns h.0) ∙ ap (λ l. committed_of s ++ l) (nodes_stay chosen ss h.1)

pub nodes_learnt : (chosen : ℕ → Bool) (ss : List ClientSession) → AllByRecursion (λ (s : ClientSession). AllByRecursion IsLearnt s.txns) ss → flat_map committed_of (settled chosen ss) ≡ committed_in ss
nodes_learnt chosen ss learnt = sym (nodes_settled chosen ss) ∙ nodes_stay chosen ss learnt ∙ sym (nodes_are ss learnt)

-- ---- one more of either
pub at_front : {X : Type 0} (xs : List X) (i : ℕ) (x : X) → slice_get xs i ≡ Some x → (i < length xs) × (x ≡ get_or xs i x)
at_front xs i x at = (slice_get_within xs i x at, sym (get_or_from_slice_get xs i x x at))

pub txn_more : (numbers : List ℕ) (seen : List Op) (txns : List Committed) (number : ℕ) (ts us : List Transaction) (i place : ℕ) (t u : Transaction) (new : Making) → slice_get ts i ≡ Some t → slice_get us i ≡ Some u → place ≡ i
    → IsMade numbers ((seen ++ flat_map (λ (u : Transaction). u.ops) (take i ts)) ++ t.ops) ((txns ++ nodes_from number 1 (take i us)) ++ node_of number (place + 1) u) new
    → IsMade numbers (seen ++ flat_map (λ (u : Transaction). u.ops) (take (i + 1) ts)) (txns ++ nodes_from number 1 (take (i + 1) us)) new
txn_more numbers seen txns number ts us i place t u new at at_u is made =
    let front = at_front ts i t at in
    let other = at_front us i u at_u in
    let ops : (seen ++ flat_map (λ (u : Transaction). u.ops) (take i ts)) ++ t.ops ≡ seen ++ flat_map (λ (u : Transaction). u.ops) (take (i + 1) ts) =
    append_assoc seen (flat_map (λ (u : Transaction). u.ops) (take i ts)) t.ops ∙ ap (λ l. seen ++ l) (sym (ops_more ts i t front.0 front.1)) in
    let nodes : (txns ++ nodes_from number 1 (take i us)) ++ node_of number (place + 1) u ≡ txns ++ nodes_from number 1 (take (i + 1) us) =
    append_assoc txns (nodes_from number 1 (take i us)) (node_of number (place + 1) u) ∙ ap (λ l. txns ++ l) (ap (λ p. nodes_from number 1 (take i us) ++ node_of number (p + 1) u) is ∙ sym (nodes_more number us i u other.0 other.1)) in
    subst (λ (l : List Committed). IsMade numbers (seen ++ flat_map (λ (u : Transaction). u.ops) (take (i + 1) ts)) l new) nodes
    (subst (λ (l : List Op). IsMade numbers l ((txns ++ nodes_from number 1 (take i us)) ++ node_of number (place + 1) u) new) ops made)

pub session_more : (numbers : List ℕ) (f : ClientSession → List Committed) (ss : List ClientSession) (i : ℕ) (s : ClientSession) (new : Making) → slice_get ss i ≡ Some s
    → IsMade numbers (ops_in (take i ss) ++ flat_map (λ (u : Transaction). u.ops) s.txns) (flat_map f (take i ss) ++ f s) new
    → IsMade numbers (ops_in (take (i + 1) ss)) (flat_map f (take (i + 1) ss)) new
session_more numbers f ss i s new at made =
    let front = at_front ss i s at in
    subst (λ (l : List Committed). IsMade numbers (ops_in (take (i + 1) ss)) l new) (sym (session_nodes_more f ss i s front.0 front.1))
    (subst (λ (l : List Op). IsMade numbers l (flat_map f (take i ss) ++ f s) new) (sym (session_ops_more ss i s front.0 front.1)) made)

pub keys_are : (ss : List ClientSession) → first_seen [] (map key_of (ops_in ss)) ≡ keys_in ss
unfolding keys_in
keys_are ss = refl
