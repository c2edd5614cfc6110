-- The log in which the transactions that pass a test are split: its nodes by their numbers, and the points that they stand for.
use Rattle.point_laws.proofs.Prelude.{◌≡◌, ◌⊎◌, ℕ, zero, suc, ◌+◌, ◌<◌, ◌≤◌, Bool, true, false, cond, List, [], ◌∷◌, ◌++◌, length, map, Option, Some, None, refl, sym, ap, ◌∙◌, subst, inl, inr, arith, append-nil, slice_get, option_and_then}
use Rattle.point_laws.proofs.Prelude.{unwrap_or, flat_map, list_any, AllByRecursion, option_map, option_map_or, cases_Bool, false≢true, length-map, map-append, flat_map-append, same_Some, slice_get-map, ClientSession, Transaction, is_write}
use Rattle.point_laws.proofs.Prelude.{Op, Read, Write, Has, each_from_flat_map, is_committed, txns_in, Committed, committed_of, committed_in, node_in, node_of, session_of, ops_of, begun_of, ended_of, each_weaker, IsLearnt, IsLearntLog}
use Rattle.point_laws.proofs.Prelude.{nodes_from, nodes_of, Point, snapshot, commit, number, snapshot_reads_behind, rest_behind, Locks, first_writes_behind, locked_writes, take_lock, find_lock, start_ops, end_ops, split_txn, points_of_node}
use Rattle.point_laws.proofs.Prelude.{points_from, points_at, points_along}
use Rattle.point_laws.proofs.Arith.{point_node}
use Rattle.point_laws.proofs.Parts.{none_locked}
use Rattle.point_laws.proofs.Named.{split_ops}
use Rattle.point_laws.proofs.Nodes.{start_node, end_node, both_nodes, nodes_are}

-- ---- the log
abbrev pub parts : (Transaction → Bool) → Locks → Transaction → List Transaction
parts p locks t = cond (p t) (split_txn locks t) (t ∷ [])

abbrev pub halves : (Transaction → Bool) → Locks → ClientSession → ClientSession
halves p locks s = record { number = s.number; txns = flat_map (parts p locks) s.txns }

abbrev pub by_test : (Transaction → Bool) → Locks → List ClientSession → List ClientSession
by_test p locks ss = map (halves p locks) ss

pub each_part : (P : Transaction → Type 0) (p : Transaction → Bool) (locks : Locks) (t : Transaction) → AllByRecursion P (split_txn locks t) → P t → AllByRecursion P (parts p locks t)
each_part P p locks t h k = elim (cases_Bool (p t)) [
  | inl e ↦ rw e h
  | inr e ↦ rw e (k, tt)
]

pub split_txns : (p : Transaction → Bool) (locks : Locks) (ss : List ClientSession) → txns_in (by_test p locks ss) ≡ flat_map (parts p locks) (txns_in ss)
split_txns p locks [] = refl
split_txns p locks (s ∷ ss) =
    ap (λ l. flat_map (parts p locks) s.txns ++ l) (split_txns p locks ss) ∙ sym (flat_map-append (parts p locks) s.txns (txns_in ss))

pub by_test_learnt : (p : Transaction → Bool) (locks : Locks) (ss : List ClientSession) → IsLearntLog ss → IsLearntLog (by_test p locks ss)
by_test_learnt p locks ss learnt =
    subst (AllByRecursion IsLearnt) (sym (split_txns p locks ss)) (each_from_flat_map IsLearnt (parts p locks) (txns_in ss) (each_weaker IsLearnt (λ t. AllByRecursion IsLearnt (parts p locks t)) (λ t h. each_part IsLearnt p locks t (h, (h, tt)) h) (txns_in ss) learnt))

-- ---- a transaction that writes nothing
record OnlyReads (ops : List Op) : Type 0 where
  pub reads : snapshot_reads_behind [] ops ≡ ops
  pub rest : rest_behind [] ops ≡ []
  pub firsts : first_writes_behind [] ops ≡ []

only_reads : (ops : List Op) → list_any is_write ops ≡ false → OnlyReads ops
only_reads [] e = record { reads = refl; rest = refl; firsts = refl }
only_reads (Read key wid ∷ ops) e =
    let r = only_reads ops e in record { reads = ap (λ l. Read key wid ∷ l) r.reads; rest = r.rest; firsts = r.firsts }
only_reads (Write key wid ∷ ops) e = absurd (false≢true (sym e))

start_is : (locks : Locks) (ops : List Op) → list_any is_write ops ≡ false → start_ops locks ops ≡ ops
start_is locks ops e =
    let r = only_reads ops e in
    ap (λ l. l ++ map (take_lock locks) (locked_writes locks ops)) r.reads ∙ ap (λ l. ops ++ map (take_lock locks) l) (none_locked locks ops r.firsts) ∙ append-nil ops

end_is : (locks : Locks) (ops : List Op) → list_any is_write ops ≡ false → end_ops locks ops ≡ []
end_is locks ops e =
    let r = only_reads ops e in
    ap (λ l. map (find_lock locks) l ++ rest_behind [] ops) (none_locked locks ops r.firsts) ∙ r.rest

-- ---- its nodes, but for their places
-- the test of the operations of nodes
abbrev pub Test : Type 0
Test = List Op → Bool

pub record IsTest (p : Transaction → Bool) (q : List Op → Bool) : Type 0 where
  pub same : (t : Transaction) → is_committed t ≡ true → p t ≡ q t.ops
  pub quiet : (ops : List Op) → q ops ≡ false → list_any is_write ops ≡ false

abbrev bare : Committed → Committed
bare c = record { session = c.session; place = 0; ops = c.ops; begun = c.begun; ended = c.ended }

abbrev pub few : Test → Locks → Committed → List Committed
few q locks c = cond (q c.ops) (both_nodes locks c) (c ∷ [])

parts_from : {p : Transaction → Bool} {q : Test} → IsTest p q → (locks : Locks) (number n m : ℕ) (ts : List Transaction) → map bare (nodes_from number m (flat_map (parts p locks) ts)) ≡ map bare (flat_map (few q locks) (nodes_from number n ts))
parts_from h locks number n m [] = refl
parts_from {p} {q} h locks number n m (t ∷ ts) =
    let start : Committed = record { session = number; place = 0; ops = start_ops locks t.ops; begun = t.begun; ended = None } in
    let end : Committed = record { session = number; place = 0; ops = end_ops locks t.ops; begun = None; ended = t.ended } in
    let whole : Committed = record { session = number; place = 0; ops = t.ops; begun = t.begun; ended = t.ended } in
    let one = parts_from h locks number (n + 1) (m + 1) ts in
    let two = parts_from h locks number (n + 1) ((m + 1) + 1) ts in
    elim (cases_Bool (is_committed t)) [
      | inl e ↦ elim (cases_Bool (q t.ops)) [
        | inl f ↦ let g = h.same t e ∙ f in rw (g, e, f) (ap (λ l. start ∷ end ∷ l) two)
        | inr f ↦ let g = h.same t e ∙ f in rw (g, e, f) (ap (λ l. whole ∷ l) one)
      ]
      | inr e ↦ elim (cases_Bool (p t)) [
        | inl g ↦ rw (g, e) two
        | inr g ↦ rw (g, e) one
      ]
    ]

parts_nodes : {p : Transaction → Bool} {q : Test} → IsTest p q → (locks : Locks) (ss : List ClientSession) → map bare (nodes_of (by_test p locks ss)) ≡ map bare (flat_map (few q locks) (nodes_of ss))
parts_nodes h locks [] = refl
parts_nodes {p} {q} h locks (s ∷ ss) =
    map-append bare (nodes_from s.number 1 (flat_map (parts p locks) s.txns)) (nodes_of (by_test p locks ss))
    ∙ ap (λ l. l ++ map bare (nodes_of (by_test p locks ss))) (parts_from h locks s.number 1 1 s.txns)
    ∙ ap (λ l. map bare (flat_map (few q locks) (committed_of s)) ++ l) (parts_nodes h locks ss)
    ∙ sym (map-append bare (flat_map (few q locks) (committed_of s)) (flat_map (few q locks) (nodes_of ss)))
    ∙ ap (map bare) (sym (flat_map-append (few q locks) (committed_of s) (nodes_of ss)))

-- what orders see of a node
pub record Looks (ss : List ClientSession) (k : ℕ) (c : Committed) : Type 0 where
  pub session : session_of ss k ≡ c.session
  pub ops : ops_of ss k ≡ c.ops
  pub begun : begun_of ss k ≡ c.begun
  pub ended : ended_of ss k ≡ c.ended

pub of_some : {X Y : Type 0} (f : X → Y) (o : Option X) (y : Y) → option_map f o ≡ Some y → (x : X) × (o ≡ Some x) × (f x ≡ y)
of_some f None y e = cc
of_some f (Some x) y e = (x, refl, same_Some (f x) y e)

looks : (ss : List ClientSession) (k : ℕ) (c : Committed) → option_map bare (node_in (committed_in ss) k) ≡ Some (bare c) → Looks ss k c
unfolding node_of
looks ss k c e =
    let r = of_some bare (node_in (committed_in ss) k) (bare c) e in
    record {
      session = ap (λ o. option_map_or (λ (x : Committed). x.session) o 0) r.1 ∙ ap (λ (x : Committed). x.session) r.2;
      ops = ap (λ o. option_map_or (λ (x : Committed). x.ops) o []) r.1 ∙ ap (λ (x : Committed). x.ops) r.2;
      begun = ap (option_and_then (λ (x : Committed). x.begun)) r.1 ∙ ap (λ (x : Committed). x.begun) r.2;
      ended = ap (option_and_then (λ (x : Committed). x.ended)) r.1 ∙ ap (λ (x : Committed). x.ended) r.2;
    }

bare_in : (nodes : List Committed) (k : ℕ) → node_in (map bare nodes) k ≡ option_map bare (node_in nodes k)
bare_in nodes zero = refl
bare_in nodes (suc i) = slice_get-map bare nodes i

-- ---- places, from 0
-- so many nodes stand for the first i
abbrev pub upto : Test → ℕ → List Committed → ℕ
upto q zero nodes = 0
upto q (suc i) [] = 0
upto q (suc i) (c ∷ nodes) = cond (q c.ops) (suc (suc (upto q i nodes))) (suc (upto q i nodes))

pub less : (q : Test) (nodes : List Committed) (i j : ℕ) → i < j → j ≤ length nodes → upto q i nodes < upto q j nodes
less q nodes i zero lt hi = absurd (omega (arith, lt))
less q [] i (suc j) lt hi = absurd (omega (arith, hi))
less q (c ∷ nodes) zero (suc j) lt hi = elim (cases_Bool (q c.ops)) [
  | inl f ↦ rw f (omega arith)
  | inr f ↦ rw f (omega arith)
]
less q (c ∷ nodes) (suc i) (suc j) lt hi = let ih = less q nodes i j (omega (arith, lt)) (omega (arith, hi)) in elim (cases_Bool (q c.ops)) [
  | inl f ↦ rw f (omega (arith, ih))
  | inr f ↦ rw f (omega (arith, ih))
]

-- a list with something for each of the two nodes, or for the one
abbrev spots : {X : Type 0} → Test → (ℕ → Committed → X) → (ℕ → Committed → X) → (ℕ → Committed → X) → ℕ → List Committed → List X
spots q a b w v [] = []
spots q a b w v (c ∷ nodes) = cond (q c.ops) (a v c ∷ b v c ∷ []) (w v c ∷ []) ++ spots q a b w (v + 1) nodes

as_many : {X : Type 0} (q : Test) (a b w : ℕ → Committed → X) (v : ℕ) (nodes : List Committed) → length (spots q a b w v nodes) ≡ upto q (length nodes) nodes
as_many q a b w v [] = refl
as_many q a b w v (c ∷ nodes) = elim (cases_Bool (q c.ops)) [
  | inl f ↦ rw f (ap (λ n. suc (suc n)) (as_many q a b w (v + 1) nodes))
  | inr f ↦ rw f (ap suc (as_many q a b w (v + 1) nodes))
]

first_spot : {X : Type 0} (q : Test) (a b w : ℕ → Committed → X) (v u : ℕ) (nodes : List Committed) (i : ℕ) (c : Committed) → u ≡ v + i → slice_get nodes i ≡ Some c → slice_get (spots q a b w v nodes) (upto q i nodes) ≡ Some (cond (q c.ops) (a u c) (w u c))
first_spot q a b w v u [] i c n e = cc
first_spot q a b w v u (d ∷ nodes) zero c n e =
    let same : v ≡ u = omega (arith, n) in
    let here : slice_get (spots q a b w v (d ∷ nodes)) 0 ≡ Some (cond (q d.ops) (a v d) (w v d)) = elim (cases_Bool (q d.ops)) [
      | inl f ↦ rw f refl
      | inr f ↦ rw f refl
    ] in
    here ∙ ap (λ k. Some (cond (q d.ops) (a k d) (w k d))) same ∙ ap (λ (x : Committed). Some (cond (q x.ops) (a u x) (w u x))) (same_Some d c e)
first_spot q a b w v u (d ∷ nodes) (suc i) c n e = let ih = first_spot q a b w (v + 1) u nodes i c (omega (arith, n)) e in elim (cases_Bool (q d.ops)) [
  | inl f ↦ rw f ih
  | inr f ↦ rw f ih
]

record Last {X : Type 0} (k n : ℕ) (xs : List X) (x : X) : Type 0 where
  pub index : ℕ
  pub is : k ≡ suc index
  pub from : index ≡ n
  pub at : slice_get xs index ≡ Some x

last_spot : {X : Type 0} (q : Test) (a b w : ℕ → Committed → X) (v u : ℕ) (nodes : List Committed) (i : ℕ) (c : Committed) → u ≡ v + i → slice_get nodes i ≡ Some c → Last (upto q (suc i) nodes) (upto q i nodes + cond (q c.ops) 1 0) (spots q a b w v nodes) (cond (q c.ops) (b u c) (w u c))
last_spot q a b w v u [] i c n e = cc
last_spot q a b w v u (d ∷ nodes) zero c n e =
    let same : v ≡ u = omega (arith, n) in
    let here : Last (upto q 1 (d ∷ nodes)) (0 + cond (q d.ops) 1 0) (spots q a b w v (d ∷ nodes)) (cond (q d.ops) (b v d) (w v d)) = elim (cases_Bool (q d.ops)) [
      | inl f ↦ record { index = 1; is = rw f refl; from = rw f refl; at = rw f refl }
      | inr f ↦ record { index = 0; is = rw f refl; from = rw f refl; at = rw f refl }
    ] in
    subst (λ (x : Committed). Last (upto q 1 (d ∷ nodes)) (0 + cond (q x.ops) 1 0) (spots q a b w v (d ∷ nodes)) (cond (q x.ops) (b u x) (w u x))) (same_Some d c e)
    (subst (λ k. Last (upto q 1 (d ∷ nodes)) (0 + cond (q d.ops) 1 0) (spots q a b w v (d ∷ nodes)) (cond (q d.ops) (b k d) (w k d))) same here)
last_spot q a b w v u (d ∷ nodes) (suc i) c n e = let ih = last_spot q a b w (v + 1) u nodes i c (omega (arith, n)) e in let from = ih.from in elim (cases_Bool (q d.ops)) [
  | inl f ↦ record { index = suc (suc ih.index); is = rw f (ap (λ k. suc (suc k)) ih.is); from = rw f (omega (arith, from)); at = rw f ih.at }
  | inr f ↦ record { index = suc ih.index; is = rw f (ap suc ih.is); from = rw f (omega (arith, from)); at = rw f ih.at }
]

-- each place is the first or the last of a node
pub record Spot (q : Test) (nodes : List Committed) (j : ℕ) : Type 0 where
  pub index : ℕ
  pub within : index < length nodes
  pub is : (j ≡ upto q index nodes) ⊎ (suc j ≡ upto q (suc index) nodes)

pub spot : (q : Test) (nodes : List Committed) (j : ℕ) → j < upto q (length nodes) nodes → Spot q nodes j
spot q [] j lt = absurd (omega (arith, lt))
spot q (c ∷ nodes) zero lt = record { index = 0; within = omega arith; is = inl refl }
spot q (c ∷ nodes) (suc j) lt = elim (cases_Bool (q c.ops)) [
  | inl f ↦ split (spot q nodes) f j (rw f at lt)
  | inr f ↦ whole (spot q nodes j) f (rw f at lt)
]
  where
    whole : (j < upto q (length nodes) nodes → Spot q nodes j) → q c.ops ≡ false → suc j < suc (upto q (length nodes) nodes) → Spot q (c ∷ nodes) (suc j)
    whole more f lt =
        let r = more (omega (arith, lt)) in
        record { index = suc r.index; within = let h = r.within in omega (arith, h); is = elim r.is [ inl h ↦ inl (rw f (ap suc h)) | inr h ↦ inr (rw f (ap suc h)) ] }

    split : ((j : ℕ) → j < upto q (length nodes) nodes → Spot q nodes j) → q c.ops ≡ true → (j : ℕ) → suc j < suc (suc (upto q (length nodes) nodes)) → Spot q (c ∷ nodes) (suc j)
    split more f zero lt = record { index = 0; within = omega arith; is = inr (rw f refl) }
    split more f (suc j) lt =
        let r = more j (omega (arith, lt)) in
        record { index = suc r.index; within = let h = r.within in omega (arith, h); is = elim r.is [ inl h ↦ inl (rw f (ap (λ n. suc (suc n)) h)) | inr h ↦ inr (rw f (ap (λ n. suc (suc n)) h)) ] }

-- ---- numbers of points, and points of numbers
abbrev pub no : Test → List ClientSession → Point → ℕ
no q ss (snapshot zero) = 0
no q ss (snapshot (suc i)) = suc (upto q i (committed_in ss))
no q ss (commit v) = upto q v (committed_in ss)

abbrev table : Test → ℕ → List Committed → List (List Point)
table q v nodes = spots q (λ u c. snapshot u ∷ []) (λ u c. commit u ∷ []) (λ u c. snapshot u ∷ commit u ∷ []) v nodes

abbrev pub points_of : Test → List ClientSession → ℕ → List Point
points_of q ss k = points_at (table q 1 (committed_in ss)) k

-- a point where its number comes first
abbrev pub heads : Test → List ClientSession → Point → List ℕ
heads q ss (snapshot v) = no q ss (snapshot v) ∷ []
heads q ss (commit v) = cond (q (ops_of ss v)) (no q ss (commit v) ∷ []) []

same_table : (v : ℕ) (nodes : List Committed) → points_from v nodes ≡ table (list_any is_write) v nodes
same_table v [] = refl
same_table v (c ∷ nodes) = ap (λ l. points_of_node v c.ops ++ l) (same_table (v + 1) nodes)

pub points_of_writer : (ss : List ClientSession) (order : List ℕ) → points_along ss order ≡ flat_map (points_of (list_any is_write) ss) order
points_of_writer ss order = ap (λ l. flat_map (points_at l) order) (same_table 1 (committed_in ss))

few_spots : (q : Test) (locks : Locks) (v : ℕ) (nodes : List Committed) → flat_map (few q locks) nodes ≡ spots q (λ u c. start_node locks c) (λ u c. end_node locks c) (λ u c. c) v nodes
few_spots q locks v [] = refl
few_spots q locks v (c ∷ nodes) = ap (λ l. few q locks c ++ l) (few_spots q locks (v + 1) nodes)

-- ---- the nodes of the log at these numbers
pub record IsParted (q : Test) (locks : Locks) (ss two : List ClientSession) : Type 0 where
  pub nodes : map bare (committed_in two) ≡ map bare (flat_map (few q locks) (committed_in ss))
  pub quiet : (ops : List Op) → q ops ≡ false → list_any is_write ops ≡ false

pub is_parted : {p : Transaction → Bool} {q : Test} → IsTest p q → (locks : Locks) (ss : List ClientSession) → IsLearntLog ss → IsParted q locks ss (by_test p locks ss)
is_parted {p} {q} h locks ss learnt = record {
  nodes = ap (map bare) (nodes_are (by_test p locks ss) (by_test_learnt p locks ss learnt)) ∙ parts_nodes h locks ss ∙ ap (λ l. map bare (flat_map (few q locks) l)) (sym (nodes_are ss learnt));
  quiet = h.quiet;
}

pub count : {q : Test} {locks : Locks} {ss two : List ClientSession} → IsParted q locks ss two → length (committed_in two) ≡ no q ss (commit (length (committed_in ss)))
count {q} {locks} {ss} {two} h =
    sym (length-map (committed_in two) bare) ∙ ap length h.nodes ∙ length-map (flat_map (few q locks) (committed_in ss)) bare
    ∙ ap length (few_spots q locks 1 (committed_in ss)) ∙ as_many q (λ u c. start_node locks c) (λ u c. end_node locks c) (λ u c. c) 1 (committed_in ss)

node_looks : {q : Test} {locks : Locks} {ss two : List ClientSession} → IsParted q locks ss two → (k : ℕ) (c : Committed) → node_in (flat_map (few q locks) (committed_in ss)) k ≡ Some c → Looks two k c
node_looks {q} {locks} {ss} {two} h k c e =
    looks two k c (sym (bare_in (committed_in two) k) ∙ ap (λ l. node_in l k) h.nodes ∙ bare_in (flat_map (few q locks) (committed_in ss)) k ∙ ap (option_map bare) e)

-- what stands at the number of a point
pub record IsAt (q : Test) (locks : Locks) (ss two : List ClientSession) (p : Point) : Type 0 where
  pub session : session_of two (no q ss p) ≡ session_of ss (point_node p)
  pub begun : (begun_of two (no q ss p) ≡ None) ⊎ (begun_of two (no q ss p) ≡ begun_of ss (point_node p))
  pub ended : (ended_of two (no q ss p) ≡ None) ⊎ (ended_of two (no q ss p) ≡ ended_of ss (point_node p))
  pub has : Has (number p) (map number (points_of q ss (no q ss p)))
  pub points : flat_map (split_ops locks ss) (points_of q ss (no q ss p)) ≡ ops_of two (no q ss p)
  pub heads : flat_map (ops_of two) (heads q ss p) ≡ split_ops locks ss p

pub record Halved (q : Test) (ss : List ClientSession) (v : ℕ) : Type 0 where
  pub is : q (ops_of ss v) ≡ true
  pub next : no q ss (commit v) ≡ suc (no q ss (snapshot v))
  pub first : points_of q ss (no q ss (snapshot v)) ≡ snapshot v ∷ []
  pub last : points_of q ss (no q ss (commit v)) ≡ commit v ∷ []

pub record Whole (q : Test) (ss : List ClientSession) (v : ℕ) : Type 0 where
  pub is : q (ops_of ss v) ≡ false
  pub same : no q ss (commit v) ≡ no q ss (snapshot v)
  pub points : points_of q ss (no q ss (snapshot v)) ≡ snapshot v ∷ commit v ∷ []

pub record NodeAt (q : Test) (locks : Locks) (ss two : List ClientSession) (v : ℕ) : Type 0 where
  pub first : IsAt q locks ss two (snapshot v)
  pub last : IsAt q locks ss two (commit v)
  pub begun : begun_of two (no q ss (snapshot v)) ≡ begun_of ss v
  pub ended : ended_of two (no q ss (commit v)) ≡ ended_of ss v
  pub kind : Halved q ss v ⊎ Whole q ss v

has_node : (nodes : List Committed) (i : ℕ) → i < length nodes → (c : Committed) × (slice_get nodes i ≡ Some c)
has_node [] i lt = absurd (omega (arith, lt))
has_node (c ∷ nodes) zero lt = (c, refl)
has_node (c ∷ nodes) (suc i) lt = has_node nodes i (omega (arith, lt))

pub node_at : {q : Test} {locks : Locks} {ss two : List ClientSession} → IsParted q locks ss two → (v : ℕ) → 0 < v → v ≤ length (committed_in ss) → NodeAt q locks ss two v
node_at {q} {locks} {ss} {two} h zero lo hi = absurd (omega (arith, lo))
node_at {q} {locks} {ss} {two} h (suc i) lo hi = go (has_node (committed_in ss) i (omega (arith, hi)))
  where
    go : (c : Committed) × (slice_get (committed_in ss) i ≡ Some c) → NodeAt q locks ss two (suc i)
    go (c, at) = elim (cases_Bool (q c.ops)) [
      | inl e ↦
          let s : Looks two (no q ss (snapshot (suc i))) (start_node locks c) = rw e at start in
          let t : Looks two (no q ss (commit (suc i))) (end_node locks c) = rw e at end in
          let ps : points_of q ss (no q ss (snapshot (suc i))) ≡ snapshot (suc i) ∷ [] = rw e at first in
          let qs : points_of q ss (no q ss (commit (suc i))) ≡ commit (suc i) ∷ [] = rw e at last in
          let yes : q (ops_of ss (suc i)) ≡ true = ap q is.ops ∙ e in
          record {
            first = record {
              session = s.session ∙ sym is.session;
              begun = inr (s.begun ∙ sym is.begun);
              ended = inl s.ended;
              has = subst (λ l. Has (number (snapshot (suc i))) (map number l)) (sym ps) (inl refl);
              points = ap (flat_map (split_ops locks ss)) ps ∙ append-nil (start_ops locks (ops_of ss (suc i))) ∙ ap (start_ops locks) is.ops ∙ sym s.ops;
              heads = append-nil (ops_of two (no q ss (snapshot (suc i)))) ∙ s.ops ∙ ap (start_ops locks) (sym is.ops);
            };
            last = record {
              session = t.session ∙ sym is.session;
              begun = inl t.begun;
              ended = inr (t.ended ∙ sym is.ended);
              has = subst (λ l. Has (number (commit (suc i))) (map number l)) (sym qs) (inl refl);
              points = ap (flat_map (split_ops locks ss)) qs ∙ append-nil (end_ops locks (ops_of ss (suc i))) ∙ ap (end_ops locks) is.ops ∙ sym t.ops;
              heads = ap (λ b. flat_map (ops_of two) (cond b (no q ss (commit (suc i)) ∷ []) [])) yes ∙ append-nil (ops_of two (no q ss (commit (suc i)))) ∙ t.ops ∙ ap (end_ops locks) (sym is.ops);
            };
            begun = s.begun ∙ sym is.begun;
            ended = t.ended ∙ sym is.ended;
            kind = inl (record { is = yes; next = let n : l.index ≡ upto q i (committed_in ss) + 1 = rw e at l.from in let m = l.is in omega (arith, n, m); first = ps; last = qs });
          }
      | inr e ↦
          let s : Looks two (no q ss (snapshot (suc i))) c = rw e at start in
          let ps : points_of q ss (no q ss (snapshot (suc i))) ≡ snapshot (suc i) ∷ commit (suc i) ∷ [] = rw e at first in
          let none : q (ops_of ss (suc i)) ≡ false = ap q is.ops ∙ e in
          let same : no q ss (commit (suc i)) ≡ no q ss (snapshot (suc i)) = let n : l.index ≡ upto q i (committed_in ss) + 0 = rw e at l.from in let m = l.is in omega (arith, n, m) in
          let starts = start_is locks (ops_of ss (suc i)) (h.quiet (ops_of ss (suc i)) none) in
          let ends = end_is locks (ops_of ss (suc i)) (h.quiet (ops_of ss (suc i)) none) in
          let both : flat_map (split_ops locks ss) (points_of q ss (no q ss (snapshot (suc i)))) ≡ ops_of two (no q ss (snapshot (suc i))) =
          ap (flat_map (split_ops locks ss)) ps ∙ ap (λ l. l ++ (end_ops locks (ops_of ss (suc i)) ++ [])) starts ∙ ap (λ l. ops_of ss (suc i) ++ (l ++ [])) ends ∙ append-nil (ops_of ss (suc i)) ∙ is.ops ∙ sym s.ops in
          record {
            first = record {
              session = s.session ∙ sym is.session;
              begun = inr (s.begun ∙ sym is.begun);
              ended = inr (s.ended ∙ sym is.ended);
              has = subst (λ l. Has (number (snapshot (suc i))) (map number l)) (sym ps) (inl refl);
              points = both;
              heads = append-nil (ops_of two (no q ss (snapshot (suc i)))) ∙ s.ops ∙ sym is.ops ∙ sym starts;
            };
            last = record {
              session = ap (session_of two) same ∙ s.session ∙ sym is.session;
              begun = inr (ap (begun_of two) same ∙ s.begun ∙ sym is.begun);
              ended = inr (ap (ended_of two) same ∙ s.ended ∙ sym is.ended);
              has = subst (λ k. Has (number (commit (suc i))) (map number (points_of q ss k))) (sym same) (subst (λ l. Has (number (commit (suc i))) (map number l)) (sym ps) (inr (inl refl)));
              points = ap (λ k. flat_map (split_ops locks ss) (points_of q ss k)) same ∙ both ∙ ap (ops_of two) (sym same);
              heads = ap (λ b. flat_map (ops_of two) (cond b (no q ss (commit (suc i)) ∷ []) [])) none ∙ sym ends;
            };
            begun = s.begun ∙ sym is.begun;
            ended = ap (ended_of two) same ∙ s.ended ∙ sym is.ended;
            kind = inr (record { is = none; same = same; points = ps });
          }
    ]
      where
        is : Looks ss (suc i) c
        is = looks ss (suc i) c (ap (option_map bare) at)

        l : Last (upto q (suc i) (committed_in ss)) (upto q i (committed_in ss) + cond (q c.ops) 1 0) (table q 1 (committed_in ss)) (cond (q c.ops) (commit (suc i) ∷ []) (snapshot (suc i) ∷ commit (suc i) ∷ []))
        l = last_spot q (λ u c. snapshot u ∷ []) (λ u c. commit u ∷ []) (λ u c. snapshot u ∷ commit u ∷ []) 1 (suc i) (committed_in ss) i c (omega arith) at

        m : Last (upto q (suc i) (committed_in ss)) (upto q i (committed_in ss) + cond (q c.ops) 1 0) (spots q (λ u c. start_node locks c) (λ u c. end_node locks c) (λ u c. c) 1 (committed_in ss)) (cond (q c.ops) (end_node locks c) c)
        m = last_spot q (λ u c. start_node locks c) (λ u c. end_node locks c) (λ u c. c) 1 (suc i) (committed_in ss) i c (omega arith) at

        start : Looks two (no q ss (snapshot (suc i))) (cond (q c.ops) (start_node locks c) c)
        start = node_looks h (no q ss (snapshot (suc i))) (cond (q c.ops) (start_node locks c) c) (ap (λ x. slice_get x (upto q i (committed_in ss))) (few_spots q locks 1 (committed_in ss)) ∙ first_spot q (λ u c. start_node locks c) (λ u c. end_node locks c) (λ u c. c) 1 (suc i) (committed_in ss) i c (omega arith) at)

        end : Looks two (no q ss (commit (suc i))) (cond (q c.ops) (end_node locks c) c)
        end = node_looks h (no q ss (commit (suc i))) (cond (q c.ops) (end_node locks c) c) (ap (node_in (flat_map (few q locks) (committed_in ss))) m.is ∙ ap (λ x. slice_get x m.index) (few_spots q locks 1 (committed_in ss)) ∙ m.at)

        first : points_of q ss (no q ss (snapshot (suc i))) ≡ cond (q c.ops) (snapshot (suc i) ∷ []) (snapshot (suc i) ∷ commit (suc i) ∷ [])
        first = ap (λ o. unwrap_or o []) (first_spot q (λ u c. snapshot u ∷ []) (λ u c. commit u ∷ []) (λ u c. snapshot u ∷ commit u ∷ []) 1 (suc i) (committed_in ss) i c (omega arith) at)

        last : points_of q ss (no q ss (commit (suc i))) ≡ cond (q c.ops) (commit (suc i) ∷ []) (snapshot (suc i) ∷ commit (suc i) ∷ [])
        last = ap (points_at (table q 1 (committed_in ss))) l.is ∙ ap (λ o. unwrap_or o []) l.at
