-- The tables of the nodes are those of the log.
use Rattle.session_history.proofs.Prelude.{◌≡◌, ℕ, zero, suc, ◌+◌, ◌<◌, ◌≤◌, ◌⊎◌, inl, inr, Bool, true, false, not, ◌&&◌, cond, List, [], ◌∷◌, ◌++◌, length, length-append, map, count_by, get_or, slice_get, Option, Some, None, is_some}
use Rattle.session_history.proofs.Prelude.{unwrap_or, refl, sym, ap, subst, ◌∙◌, arith, append_assoc, nat_eq, All, Vec, Global, filter, filter_map, cons_option, list_any, find, range_with_len, AllByRecursion, option_map, option_map_or}
use Rattle.session_history.proofs.Prelude.{both_ways, eqb-true, eqb-false, eq-eqb, ne_eqb, cases_lt, slice_get_past, slice_get-get_or, slice_get-map, same_Some, All-from_recursion, append-nil, length-map, ClientSession, Event, Log}
use Rattle.session_history.proofs.Prelude.{last_write, external_read, committed, wrote, writer_of, source, writes_as, is_committed, txns_in, settled, taken, resolved, first_seen, keys_in, Committed, committed_in, node_in, node_of}
use Rattle.session_history.proofs.Prelude.{events_of, aborted_in, log_of, sources_of, node_named, Placed, placed_in, NumberedNode, node_view, nodes_among, numbered_from, keys_among, HoldsAll, Transactions, node_among, RowView, row_view}
use Rattle.session_history.proofs.Prelude.{reader_view, row_after, row_from, no_row, writer_if, reader_if, AreRows, event_key, log_keys, log_nodes, AreReads, final_node, found_by, readers_of, ReadFrom, Reader, entry_of, is_last_write}
use Rattle.session_history.proofs.Prelude.{ends_with, HasWrites, readers_in, row_in, numbered_node, FindsWrites, Node, KeyRow, Written, Writes}
use Rattle.std.proofs.Math.Path.{fun_ext}
use Rattle.session_history.specs.Sources.{found_in}
use Rattle.session_history.proofs.Placings.{one_there, aborted_there, nodes_in, txns_placed, all_below, keys_settled, keys_placed, committed_placed}
use Rattle.session_history.proofs.KeyRows.{rows_same}

-- ---- the log, field by field

pub log_ops : (ss : List ClientSession) (v : ℕ) → (log_of ss).ops v ≡ events_of (keys_in ss) (option_map_or (λ node. node.ops) (node_in (committed_in ss) v) [])
unfolding log_of node_of
log_ops ss v = refl

pub log_session : (ss : List ClientSession) (v : ℕ) → (log_of ss).session v ≡ option_map_or (λ node. node.session) (node_in (committed_in ss) v) 0
unfolding log_of node_of
log_session ss v = refl

pub log_aborted : (ss : List ClientSession) → (log_of ss).aborted ≡ map (events_of (keys_in ss)) (aborted_in ss)
unfolding log_of
log_aborted ss = refl

-- ---- by node, from a list of nodes

pub at_seam : {X : Type 0} (front : List X) (x : X) (back : List X) → slice_get (front ++ x ∷ back) (length front) ≡ Some x
at_seam [] x back = refl
at_seam (y ∷ front) x back = at_seam front x back

by_node_from : {X : Type 0} (f : Option Committed → X) (front back : List Committed) (v : ℕ) → v ≡ suc (length front)
    → map (λ u. f (node_in (front ++ back) u)) (range_with_len v (length back)) ≡ map (λ c. f (Some c)) back
by_node_from f front [] v e = refl
by_node_from {X} f front (c ∷ back) v e =
    let P : ℕ → Type 0 = λ u. f (node_in (front ++ c ∷ back) u) ≡ f (Some c) in
    let here : P v = subst P (sym e) (ap f (at_seam front c back)) in
    let Q : List Committed → Type 0 = λ cs. map (λ u. f (node_in cs u)) (range_with_len (v + 1) (length back)) ≡ map (λ d. f (Some d)) back in
    let len = length-append front (c ∷ []) in
    let rest : Q (front ++ c ∷ back) = subst Q (append_assoc front (c ∷ []) back) (by_node_from f (front ++ c ∷ []) back (v + 1) (omega (arith, len, e))) in
    ap (λ x. x ∷ map (λ u. f (node_in (front ++ c ∷ back) u)) (range_with_len (v + 1) (length back))) here ∙ ap (λ l. f (Some c) ∷ l) rest

pub by_node : {X : Type 0} (f : Option Committed → X) (cs : List Committed) → map (λ u. f (node_in cs u)) (range_with_len 1 (length cs)) ≡ map (λ c. f (Some c)) cs
by_node f cs = by_node_from f [] cs 1 refl

map_map : {A B C : Type 0} (g : B → C) (f : A → B) (xs : List A) → map g (map f xs) ≡ map (λ x. g (f x)) xs
map_map g f [] = refl
map_map g f (x ∷ xs) = ap (λ l. g (f x) ∷ l) (map_map g f xs)

map_same : {A B : Type 0} (f g : A → B) (xs : List A) → ((x : A) → f x ≡ g x) → map f xs ≡ map g xs
map_same f g [] e = refl
map_same f g (x ∷ xs) e = ap (λ y. y ∷ map f xs) (e x) ∙ ap (λ l. g x ∷ l) (map_same f g xs e)

-- the operations of the nodes are those of the log's nodes
pub ops_by_node : (ss : List ClientSession) (nodes : List Node) → map node_view nodes ≡ map (numbered_node (keys_in ss)) (committed_in ss)
    → map (λ node. node.events.items) nodes ≡ map (log_of ss).ops (range_with_len 1 (length (committed_in ss)))
ops_by_node ss nodes e =
    sym (map_map (λ (n : NumberedNode). n.events) node_view nodes) ∙ ap (map (λ (n : NumberedNode). n.events)) e
    ∙ map_map (λ (n : NumberedNode). n.events) (numbered_node (keys_in ss)) (committed_in ss)
    ∙ sym (map_same (log_of ss).ops (λ v. events_of (keys_in ss) (option_map_or (λ node. node.ops) (node_in (committed_in ss) v) [])) (range_with_len 1 (length (committed_in ss))) (log_ops ss)
    ∙ by_node (λ o. events_of (keys_in ss) (option_map_or (λ node. node.ops) o [])) (committed_in ss))

-- ---- rows

module _ (ops : ℕ → List Event) (x : ℕ) where
  abbrev writers_at : ℕ → ℕ → List ℕ
  writers_at v n = filter (λ u. is_some (last_write x (ops u))) (range_with_len v n)

  abbrev readers_at : ℕ → ℕ → List (ℕ × ℕ)
  readers_at v n = filter_map (λ u. option_map (λ w. (u, w)) (external_read x (ops u))) (range_with_len v n)

  pub row_of_range : (row : RowView) (v n : ℕ) → row_from row x v (map ops (range_with_len v n)) ≡ record { writers = row.writers ++ writers_at v n; readers = row.readers ++ readers_at v n }
  row_of_range row v zero =
      ap (λ ws. record { writers = ws; readers = row.readers }) (sym (append-nil row.writers)) ∙ ap (λ rs. record { writers = row.writers ++ []; readers = rs }) (sym (append-nil row.readers))
  row_of_range row v (suc n) =
      row_of_range (row_after row x v (ops v)) (v + 1) n
      ∙ ap (λ ws. record { writers = ws; readers = (row.readers ++ reader_if v (external_read x (ops v))) ++ readers_at (v + 1) n })
      (append_assoc row.writers (writer_if v (last_write x (ops v))) (writers_at (v + 1) n) ∙ ap (λ l. row.writers ++ l) (writer_here (last_write x (ops v)) (writers_at (v + 1) n)))
      ∙ ap (λ rs. record { writers = row.writers ++ writers_at v (suc n); readers = rs })
      (append_assoc row.readers (reader_if v (external_read x (ops v))) (readers_at (v + 1) n) ∙ ap (λ l. row.readers ++ l) (reader_here (external_read x (ops v)) (readers_at (v + 1) n)))
    where
      writer_here : (o : Option ℕ) (rest : List ℕ) → writer_if v o ++ rest ≡ cond (is_some o) (v ∷ rest) rest
      writer_here None rest = refl
      writer_here (Some w) rest = refl

      reader_here : (o : Option ℕ) (rest : List (ℕ × ℕ)) → reader_if v o ++ rest ≡ cons_option (option_map (λ w. (v, w)) o) rest
      reader_here None rest = refl
      reader_here (Some w) rest = refl

  -- what a node reads of the key, by its readers
  pub found_outside : (s : ℕ → ℕ) (r v n : ℕ) → (r < v) ⊎ (v + n ≤ r) → found_by x s r (filter_map (λ u. option_map (λ w. (u, w)) (external_read x (ops u))) (range_with_len v n)) ≡ []
  found_outside s r v zero out = refl
  found_outside s r v (suc n) out = go (external_read x (ops v)) (found_outside s r (v + 1) n (further out))
    where
      further : (r < v) ⊎ (v + suc n ≤ r) → (r < v + 1) ⊎ (v + 1 + n ≤ r)
      further (inl lt) = inl (omega arith)
      further (inr le) = inr (omega arith)

      apart : (r < v) ⊎ (v + suc n ≤ r) → v ≡ r → ⊥
      apart (inl lt) e = omega arith
      apart (inr le) e = omega arith

      go : (o : Option ℕ) → found_by x s r (filter_map (λ u. option_map (λ w. (u, w)) (external_read x (ops u))) (range_with_len (v + 1) n)) ≡ []
          → found_by x s r (cons_option (option_map (λ w. (v, w)) o) (filter_map (λ u. option_map (λ w. (u, w)) (external_read x (ops u))) (range_with_len (v + 1) n))) ≡ []
      go None e = e
      go (Some w) e = ap (λ b. cond b ((x, s w) ∷ []) [] ++ found_by x s r (filter_map (λ u. option_map (λ w'. (u, w')) (external_read x (ops u))) (range_with_len (v + 1) n))) (ne_eqb v r (apart out)) ∙ e

  pub found_inside : (s : ℕ → ℕ) (r v n : ℕ) → v ≤ r → r < v + n → found_by x s r (filter_map (λ u. option_map (λ w. (u, w)) (external_read x (ops u))) (range_with_len v n)) ≡ cons_option (option_map (λ w. (x, s w)) (external_read x (ops r))) []
  found_inside s r v zero low high = absurd (omega arith)
  found_inside s r v (suc n) low high = go (nat_eq v r) refl (λ above. found_inside s r (v + 1) n above (omega arith))
    where
      rest : List (ℕ × ℕ)
      rest = filter_map (λ u. option_map (λ w. (u, w)) (external_read x (ops u))) (range_with_len (v + 1) n)

      apart : (o : Option ℕ) → nat_eq v r ≡ false → found_by x s r (cons_option (option_map (λ w. (v, w)) o) rest) ≡ found_by x s r rest
      apart None e = refl
      apart (Some w) e = ap (λ b. cond b ((x, s w) ∷ []) [] ++ found_by x s r rest) e

      here : (o : Option ℕ) → nat_eq v r ≡ true → found_by x s r rest ≡ [] → found_by x s r (cons_option (option_map (λ w. (v, w)) o) rest) ≡ cons_option (option_map (λ w. (x, s w)) o) []
      here None e f = f
      here (Some w) e f = ap (λ b. cond b ((x, s w) ∷ []) [] ++ found_by x s r rest) e ∙ ap (λ l. (x, s w) ∷ l) f

      go : (b : Bool) → nat_eq v r ≡ b → (v + 1 ≤ r → found_by x s r rest ≡ cons_option (option_map (λ w. (x, s w)) (external_read x (ops r))) []) → found_by x s r (cons_option (option_map (λ w. (v, w)) (external_read x (ops v))) rest) ≡ cons_option (option_map (λ w. (x, s w)) (external_read x (ops r))) []
      go true e more =
          let same = eqb-true v r e in
          here (external_read x (ops v)) e (found_outside s r (v + 1) n (inl (omega arith))) ∙ ap (λ u. cons_option (option_map (λ w. (x, s w)) (external_read x (ops u))) []) same
      go false e more =
          let ne : v ≡ r → ⊥ = eqb-false v r e in
          apart (external_read x (ops v)) e ∙ more (omega (arith, ne))

-- ---- all keys

rows_as_map_from : (f : ℕ → RowView) (x : ℕ) (rows : List KeyRow) → ((i : ℕ) → i < length rows → option_map row_view (slice_get rows i) ≡ Some (f (x + i))) → map row_view rows ≡ map f (range_with_len x (length rows))
rows_as_map_from f x [] h = refl
rows_as_map_from f x (row ∷ rows) h =
    let first : row_view row ≡ f x = same_Some (row_view row) (f x) (h 0 (omega arith) ∙ ap (λ y. Some (f y)) (omega arith)) in
    ap (λ r. r ∷ map row_view rows) first ∙ ap (λ l. f x ∷ l) (rows_as_map_from f (x + 1) rows (λ i lt. h (suc i) (omega arith) ∙ ap (λ y. Some (f y)) (omega arith)))

pub rows_as_map : (keys : ℕ) (f : ℕ → RowView) (rows : List KeyRow) → AreRows keys f rows → map row_view rows ≡ map f (range_with_len 0 keys)
rows_as_map keys f rows h =
    rows_as_map_from f 0 rows (λ i lt. h.each i (omega (arith, h.count)) ∙ ap (λ y. Some (f y)) (omega arith)) ∙ ap (λ n. map f (range_with_len 0 n)) h.count

found_in_range : (source : ℕ → ℕ → ℕ) (v : ℕ) (readers : ℕ → List (ℕ × ℕ)) (g : ℕ → Option (ℕ × ℕ)) → ((x : ℕ) → found_by x (source x) v (readers x) ≡ cons_option (g x) [])
    → (x n : ℕ) → found_in x source v (map readers (range_with_len x n)) ≡ filter_map g (range_with_len x n)
found_in_range source v readers g e x zero = refl
found_in_range source v readers g e x (suc n) =
    ap (λ l. l ++ found_in (x + 1) source v (map readers (range_with_len (x + 1) n))) (e x) ∙ ap (λ l. cons_option (g x) [] ++ l) (found_in_range source v readers g e (x + 1) n) ∙ onto (g x) (filter_map g (range_with_len (x + 1) n))
  where
    onto : (o : Option (ℕ × ℕ)) (rest : List (ℕ × ℕ)) → cons_option o [] ++ rest ≡ cons_option o rest
    onto None rest = refl
    onto (Some y) rest = refl

option_map_map : {A B C : Type 0} (g : B → C) (f : A → B) (o : Option A) → option_map g (option_map f o) ≡ option_map (λ x. g (f x)) o
option_map_map g f None = refl
option_map_map g f (Some x) = refl

option_map_same : {A B : Type 0} (f g : A → B) (o : Option A) → ((x : A) → f x ≡ g x) → option_map f o ≡ option_map g o
option_map_same f g None e = refl
option_map_same f g (Some x) e = ap (λ y. Some y) (e x)

-- what a node reads, by the readers of each key
pub reads_by_key : (log : Log) (s : ℕ → ℕ → ℕ) (rows : List KeyRow) (v : ℕ) → 0 < v → v ≤ log.nodes → ((x w : ℕ) → s x w ≡ writer_of log x w) → AreRows log.keys (row_in log) rows
    → found_in 0 s v (map readers_of rows) ≡ sources_of log v
reads_by_key log s rows v low high writers h =
    ap (found_in 0 s v) (sym (map_map (λ (r : RowView). r.readers) row_view rows) ∙ ap (map (λ (r : RowView). r.readers)) (rows_as_map log.keys (row_in log) rows h) ∙ map_map (λ (r : RowView). r.readers) (row_in log) (range_with_len 0 log.keys))
    ∙ found_in_range s v (readers_in log) (λ x. option_map (λ w. (x, w)) (source log v x))
    (λ x. found_inside log.ops x (s x) v 1 log.nodes (omega arith) (omega arith)
    ∙ ap (λ o. cons_option o []) (option_map_same (λ w. (x, s x w)) (λ w. (x, writer_of log x w)) (external_read x (log.ops v)) (λ w. ap (λ u. (x, u)) (writers x w))
    ∙ sym (option_map_map (λ u. (x, u)) (writer_of log x) (external_read x (log.ops v)))))
    0 log.keys

cases_le : (m n : ℕ) → (m ≤ n) ⊎ (n < m)
cases_le m n = elim (cases_lt n m) [ inl lt ↦ inr lt | inr le ↦ inl le ]

zero_or : (n : ℕ) → (n ≡ 0) ⊎ (0 < n)
zero_or zero = inl refl
zero_or (suc n) = inr (omega arith)

-- ---- writers by identity

-- a test of a node's operations, by the list of nodes
test_by_node : (keys : List (List ℕ)) (test : List Event → Bool) (cs : List Committed) (k : ℕ) → test [] ≡ false
    → option_map_or (λ node. test node.events) (slice_get (map (numbered_node keys) cs) k) false ≡ test (events_of keys (option_map_or (λ c. c.ops) (slice_get cs k) []))
test_by_node keys test cs k none = ap (λ o. option_map_or (λ (node : NumberedNode). test node.events) o false) (slice_get-map (numbered_node keys) cs k) ∙ go (slice_get cs k)
  where
    go : (o : Option Committed) → option_map_or (λ node. test node.events) (option_map (numbered_node keys) o) false ≡ test (events_of keys (option_map_or (λ c. c.ops) o []))
    go None = sym none
    go (Some c) = refl

-- a test of the transaction of node v
pub tested_node : (ss : List ClientSession) (test : List Event → Bool) (v : ℕ) → 0 < v → test [] ≡ false
    → list_any (λ p. nat_eq p.0 v && test p.1) (numbered_from 0 (keys_in ss) (placed_in (resolved ss))) ≡ test ((log_of ss).ops v)
tested_node ss test zero low none = absurd (omega arith)
tested_node ss test (suc k) low none =
    one_there (keys_in ss) test 0 (suc k) k (placed_in (resolved ss)) (omega arith)
    ∙ ap (λ ns. option_map_or (λ (node : NumberedNode). test node.events) (slice_get ns k) false) (nodes_in (keys_in ss) ss)
    ∙ test_by_node (keys_in ss) test (committed_in ss) k none
    ∙ ap test (sym (log_ops ss (suc k)))

pub tested_aborted : (ss : List ClientSession) (test : List Event → Bool) → list_any (λ p. nat_eq p.0 0 && test p.1) (numbered_from 0 (keys_in ss) (placed_in (resolved ss))) ≡ list_any test (log_of ss).aborted
tested_aborted ss test =
    aborted_there (keys_in ss) test 0 (placed_in (resolved ss))
    ∙ ap (λ ts. list_any test (map (events_of (keys_in ss)) (map (λ t. t.ops) (filter (λ t. not (is_committed t)) ts)))) (txns_placed (resolved ss))
    ∙ ap (list_any test) (sym (log_aborted ss))

pub finds_writes : (ss : List ClientSession) (keys : List (List ℕ)) (t : Writes) → t.twice ≡ None → keys ≡ keys_in ss → HasWrites (numbered_from 0 keys (placed_in (resolved ss))) t → FindsWrites (log_of ss) t
finds_writes ss keys t once e h =
    let P : List (List ℕ) → Type 0 = λ ks. HasWrites (numbered_from 0 ks (placed_in (resolved ss))) t in
    let k : P (keys_in ss) = subst P e h in
    record {
      nodes = λ x w v low. k.writes once x w v ∙ tested_node ss (writes_as x w) v low refl;
      lasts = λ x w v low. k.lasts once x w v ∙ tested_node ss (ends_with x w) v low refl;
      aborted = λ x w. k.writes once x w 0 ∙ tested_aborted ss (writes_as x w);
    }

find_none : (p : ℕ → Bool) (v n : ℕ) → ((u : ℕ) → v ≤ u → u < v + n → p u ≡ false) → find p (range_with_len v n) ≡ None
find_none p v zero h = refl
find_none p v (suc n) h = ap (λ b. cond b (Some v) (find p (range_with_len (v + 1) n))) (h v (omega arith) (omega arith)) ∙ find_none p (v + 1) n (λ u lo hi. h u (omega arith) (omega arith))

find_one : (p : ℕ → Bool) (r v n : ℕ) → v ≤ r → r < v + n → ((u : ℕ) → v ≤ u → u < v + n → p u ≡ nat_eq r u) → find p (range_with_len v n) ≡ Some r
find_one p r v zero low high h = absurd (omega arith)
find_one p r v (suc n) low high h = ap (λ b. cond b (Some v) (find p (range_with_len (v + 1) n))) (h v (omega arith) (omega arith))
    ∙ go (nat_eq r v) refl (λ above. find_one p r (v + 1) n above (omega arith) (λ u lo hi. h u (omega arith) (omega arith)))
  where
    go : (b : Bool) → nat_eq r v ≡ b → (v + 1 ≤ r → find p (range_with_len (v + 1) n) ≡ Some r) → cond b (Some v) (find p (range_with_len (v + 1) n)) ≡ Some r
    go true e more = ap (λ u. Some u) (sym (eqb-true r v e))
    go false e more = let ne : r ≡ v → ⊥ = eqb-false r v e in more (omega (arith, ne))

-- the node that wrote it, by the table
pub final_by_table : (log : Log) (t : Writes) (x w : ℕ) → ((v : ℕ) → log.nodes < v → log.ops v ≡ []) → FindsWrites log t → final_node (entry_of t w) x ≡ writer_of log x w
final_by_table log t x w past h = go (entry_of t w) (λ v low. sym (h.lasts x w v low))
  where
    go : (o : Option Written) → ((v : ℕ) → 0 < v → wrote log x w v ≡ is_last_write x v o) → final_node o x ≡ unwrap_or (find (wrote log x w) (committed log)) 0
    go None e = sym (ap (λ q. unwrap_or q 0) (find_none (wrote log x w) 1 log.nodes (λ u lo hi. e u (omega arith))))
    go (Some r) e = here ((nat_eq r.key x) && r.last) refl
      where
        both : (a b c : Bool) → ((a && b) && c) ≡ ((a && c) && b)
        both true b true = and_true b
          where
            and_true : (b : Bool) → (b && true) ≡ b
            and_true true = refl
            and_true false = refl
        both true b false = and_false b
          where
            and_false : (b : Bool) → (b && false) ≡ false
            and_false true = refl
            and_false false = refl
        both false b c = refl

        at : (v : ℕ) → 0 < v → wrote log x w v ≡ ((nat_eq r.key x && r.last) && nat_eq r.node v)
        at v low = e v low ∙ both (nat_eq r.key x) (nat_eq r.node v) r.last

        inside : r.node ≤ log.nodes ⊎ (log.nodes < r.node) → (nat_eq r.key x && r.last) ≡ true → 0 < r.node → r.node ≤ log.nodes
        inside (inl le) f low = le
        inside (inr lt) f low = absurd (both_ways (wrote log x w r.node) (ap (λ ops. option_map_or (λ y. nat_eq y w) (last_write x ops) false) (past r.node lt))
            (at r.node low ∙ ap (λ b. b && nat_eq r.node r.node) f ∙ eq-eqb r.node r.node refl))

        node_zero : r.node ≡ 0 ⊎ (0 < r.node) → (nat_eq r.key x && r.last) ≡ true → r.node ≡ unwrap_or (find (wrote log x w) (committed log)) 0
        node_zero (inl zero_is) f = zero_is ∙ sym (ap (λ q. unwrap_or q 0) (find_none (wrote log x w) 1 log.nodes (λ u lo hi. at u (omega arith) ∙ ap (λ b. b && nat_eq r.node u) f ∙ ne_eqb r.node u (λ same. absurd (omega arith)))))
        node_zero (inr low) f =
            let high = inside (cases_le r.node log.nodes) f low in
            sym (ap (λ q. unwrap_or q 0) (find_one (wrote log x w) r.node 1 log.nodes (omega arith) (omega arith) (λ u lo hi. at u (omega arith) ∙ ap (λ b. b && nat_eq r.node u) f)))

        here : (b : Bool) → (nat_eq r.key x && r.last) ≡ b → cond b r.node 0 ≡ unwrap_or (find (wrote log x w) (committed log)) 0
        here true f = node_zero (zero_or r.node) f
        here false f = sym (ap (λ q. unwrap_or q 0) (find_none (wrote log x w) 1 log.nodes (λ u lo hi. at u (omega arith) ∙ ap (λ b. b && nat_eq r.node u) f)))

-- nodes behind the last have no operations
pub ops_past : (ss : List ClientSession) (v : ℕ) → (log_of ss).nodes < v → (log_of ss).ops v ≡ []
ops_past ss zero h = absurd (omega arith)
ops_past ss (suc k) h = log_ops ss (suc k) ∙ ap (λ o. events_of (keys_in ss) (option_map_or (λ (c : Committed). c.ops) o [])) (slice_get_past (committed_in ss) k (let n = log_nodes ss in omega (arith, n)))

-- ---- names

named_from : (session place : ℕ) (nodes : List Node) (front back : List Committed) (v : ℕ) → v ≡ suc (length front) → (keys : List (List ℕ)) → map node_view nodes ≡ map (numbered_node keys) back
    → node_among session place v nodes ≡ find (λ u. option_map_or (λ c. nat_eq c.session session && nat_eq c.place place) (node_in (front ++ back) u) false) (range_with_len v (length back))
named_from session place [] front [] v e keys h = refl
named_from session place [] front (c ∷ back) v e keys h = cc
named_from session place (n ∷ nodes) front [] v e keys h = cc
named_from session place (n ∷ nodes) front (c ∷ back) v e keys h =
    let first : node_view n ≡ numbered_node keys c = cc in
    let rest : map node_view nodes ≡ map (numbered_node keys) back = cc in
    let test : Option Committed → Bool = λ o. option_map_or (λ d. nat_eq d.session session && nat_eq d.place place) o false in
    let P : ℕ → Type 0 = λ u. test (node_in (front ++ c ∷ back) u) ≡ test (Some c) in
    let here : P v = subst P (sym e) (ap test (at_seam front c back)) in
    let Q : List Committed → Type 0 = λ cs. node_among session place (v + 1) nodes ≡ find (λ u. test (node_in cs u)) (range_with_len (v + 1) (length back)) in
    let len = length-append front (c ∷ []) in
    let more : Q (front ++ c ∷ back) = subst Q (append_assoc front (c ∷ []) back) (named_from session place nodes (front ++ c ∷ []) back (v + 1) (omega (arith, len, e)) keys rest) in
    ap (λ m. cond (nat_eq m.session session && nat_eq m.place place) (Some v) (node_among session place (v + 1) nodes)) first
    ∙ ap (λ o. cond (nat_eq c.session session && nat_eq c.place place) (Some v) o) more
    ∙ ap (λ b. cond b (Some v) (find (λ u. test (node_in (front ++ c ∷ back) u)) (range_with_len (v + 1) (length back)))) (sym here)

pub named_node : (ss : List ClientSession) (session place : ℕ) (nodes : List Node) → map node_view nodes ≡ map (numbered_node (keys_in ss)) (committed_in ss) → node_among session place 1 nodes ≡ node_named ss session place
unfolding node_of
named_node ss session place nodes h = named_from session place nodes [] (committed_in ss) 1 refl (keys_in ss) h

-- ---- all of it

pub rows_by_log : (ss : List ClientSession) (keys : ℕ) (nodes : List Node) (rows : List KeyRow) → keys ≡ length (keys_in ss) → map node_view nodes ≡ map (numbered_node (keys_in ss)) (committed_in ss)
    → AreRows keys (λ x. row_from no_row x 1 (map (λ node. node.events.items) nodes)) rows → AreRows (log_of ss).keys (row_in (log_of ss)) rows
rows_by_log ss keys nodes rows e same h =
    let P : ℕ → Type 0 = λ k. AreRows k (row_in (log_of ss)) rows in
    subst P (e ∙ sym (log_keys ss))
    (rows_same keys _ (row_in (log_of ss)) rows (λ x _.
    ap (row_from no_row x 1) (ops_by_node ss nodes same) ∙ row_of_range (log_of ss).ops x no_row 1 (length (committed_in ss))
    ∙ ap (λ n. record { writers = filter (λ u. is_some (last_write x ((log_of ss).ops u))) (range_with_len 1 n); readers = filter_map (λ u. option_map (λ w. (u, w)) (external_read x ((log_of ss).ops u))) (range_with_len 1 n) }) (sym (log_nodes ss)))
    h)

range_low : (v n : ℕ) → AllByRecursion (λ u. (v ≤ u) × (u < v + n)) (range_with_len v n)
range_low v zero = tt
range_low v (suc n) = ((omega arith, omega arith), widen (range_with_len (v + 1) n) (range_low (v + 1) n))
  where
    widen : (us : List ℕ) → AllByRecursion (λ u. (v + 1 ≤ u) × (u < v + 1 + n)) us → AllByRecursion (λ u. (v ≤ u) × (u < v + suc n)) us
    widen [] h = tt
    widen (u ∷ us) h = ((omega arith, omega arith), widen us h.1)

-- the readers of a row are nodes
readers_nodes : (n : ℕ) (f : ℕ → Option ℕ) (us : List ℕ) → AllByRecursion (λ u. (1 ≤ u) × (u < 1 + n)) us → AllByRecursion (λ (r : ℕ × ℕ). (0 < r.0) × (r.0 ≤ n)) (filter_map (λ u. option_map (λ w. (u, w)) (f u)) us)
readers_nodes n f [] h = tt
readers_nodes n f (u ∷ us) h = go (f u) (readers_nodes n f us h.1)
  where
    go : (o : Option ℕ) → AllByRecursion (λ (r : ℕ × ℕ). (0 < r.0) × (r.0 ≤ n)) (filter_map (λ v. option_map (λ w. (v, w)) (f v)) us) → AllByRecursion (λ (r : ℕ × ℕ). (0 < r.0) × (r.0 ≤ n)) (cons_option (option_map (λ w. (u, w)) o) (filter_map (λ v. option_map (λ w. (v, w)) (f v)) us))
    go None e = e
    go (Some w) e = ((omega (arith, h.0.0), omega (arith, h.0.1)), e)

by_view : (n : ℕ) (rs : List Reader) → AllByRecursion (λ r. (0 < r.0) × (r.0 ≤ n)) (map reader_view rs) → AllByRecursion (λ r. (0 < r.node) × (r.node ≤ n)) rs
by_view n [] h = tt
by_view n (r ∷ rs) h = (h.0, by_view n rs h.1)

pub readers_within : (log : Log) (rows : List KeyRow) → AreRows log.keys (row_in log) rows → All (λ row. All (λ r. (0 < r.node) × (r.node ≤ log.nodes)) row.readers.items) rows
readers_within log rows h = λ k d lt.
    let row = get_or rows k d in
    let is : row_view row ≡ row_in log k = same_Some (row_view row) (row_in log k) (sym (ap (option_map row_view) (slice_get-get_or rows k d lt)) ∙ h.each k (omega (arith, h.count))) in
    let P : List (ℕ × ℕ) → Type 0 = λ rs. AllByRecursion (λ r. (0 < r.0) × (r.0 ≤ log.nodes)) rs in
    let Q : Reader → Type 0 = λ r. (0 < r.node) × (r.node ≤ log.nodes) in
    All-from_recursion Q row.readers.items
    (by_view log.nodes row.readers.items (subst P (sym (ap (λ (r : RowView). r.readers) is)) (readers_nodes log.nodes (λ u. external_read k (log.ops u)) (range_with_len 1 log.nodes) (range_low 1 log.nodes))))

-- the operations of the nodes are on the keys
pub events_within : (keys : List (List ℕ)) (ps : List Placed) (nodes : List Node) → keys ≡ first_seen [] (keys_among ps) → map node_view nodes ≡ nodes_among keys ps
    → All (λ node. All (λ event. event_key event < length keys) node.events.items) nodes
events_within keys ps nodes e same =
    let P : List NumberedNode → Type 0 = λ ns. AllByRecursion (λ node. AllByRecursion (λ ev. event_key ev < length keys) node.events) ns in
    let Q : Event → Type 0 = λ event. event_key event < length keys in
    let R : Node → Type 0 = λ node. All Q node.events.items in
    All-from_recursion R nodes (go nodes (subst P (sym same) (all_below keys ps e)))
  where
    go : (ns : List Node) → AllByRecursion (λ node. AllByRecursion (λ ev. event_key ev < length keys) node.events) (map node_view ns) → AllByRecursion (λ (node : Node). All (λ event. event_key event < length keys) node.events.items) ns
    go [] h = tt
    go (n ∷ ns) h = (All-from_recursion (λ event. event_key event < length keys) n.events.items h.0, go ns h.1)

pub reads_by_log : (log : Log) (t : Writes) (rows : List KeyRow) (n : ℕ) (reads : List (Vec ReadFrom Global)) → n ≡ log.nodes → ((v : ℕ) → log.nodes < v → log.ops v ≡ []) → FindsWrites log t → AreRows log.keys (row_in log) rows
    → AreReads n (λ v. found_in 0 (λ x w. final_node (entry_of t w) x) v (map readers_of rows)) reads → AreReads log.nodes (sources_of log) reads
reads_by_log log t rows n reads e past h rows_are reads_are = record {
  count = reads_are.count ∙ e;
  each = λ i lt. reads_are.each i (omega (arith, e)) ∙ ap (λ r. Some r) (reads_by_key log (λ x w. final_node (entry_of t w) x) rows (i + 1) (omega arith) (omega arith) (λ x w. final_by_table log t x w past h) rows_are);
}

-- ---- from all that the transactions hold

pub keys_settled_held : (chosen : ℕ → Bool) (ss : List ClientSession) (all : Transactions) → HoldsAll all (placed_in (settled chosen ss)) → all.numbers.texts.items ≡ keys_in ss
keys_settled_held chosen ss all h = h.keys ∙ keys_settled chosen ss

-- where these are the taken ones
pub taken_held : (chosen : ℕ → Bool) (ss : List ClientSession) (all : Transactions) → ((n : ℕ) → chosen n ≡ taken ss n) → HoldsAll all (placed_in (settled chosen ss)) → HoldsAll all (placed_in (resolved ss))
unfolding resolved
taken_held chosen ss all e h =
    let P : (ℕ → Bool) → Type 0 = λ f. HoldsAll all (placed_in (settled f ss)) in
    subst P (fun_ext e) h

module _ (ss : List ClientSession) (all : Transactions) (h : HoldsAll all (placed_in (resolved ss))) where
  pub keys_held : all.numbers.texts.items ≡ keys_in ss
  keys_held = h.keys ∙ keys_placed ss

  pub nodes_held : map node_view all.nodes.items ≡ map (numbered_node (keys_in ss)) (committed_in ss)
  nodes_held = h.nodes ∙ ap (λ ks. nodes_among ks (placed_in (resolved ss))) keys_held ∙ nodes_in (keys_in ss) ss

  pub count_held : length all.nodes.items ≡ length (committed_in ss)
  count_held = sym (length-map all.nodes.items node_view) ∙ ap length nodes_held ∙ length-map (committed_in ss) (numbered_node (keys_in ss))

  pub committed_held : length all.nodes.items ≡ count_by is_committed (txns_in (resolved ss))
  committed_held =
      count_held ∙ sym (length-map (committed_in ss) (numbered_node [])) ∙ ap length (sym (nodes_in [] ss)) ∙ committed_placed [] (placed_in (resolved ss)) ∙ ap (count_by is_committed) (txns_placed (resolved ss))

  pub writes_held : all.writes.twice ≡ None → FindsWrites (log_of ss) all.writes
  writes_held once = finds_writes ss all.numbers.texts.items all.writes once keys_held h.writes

  pub rows_held : (keys : ℕ) (passed : List Node) (rows : List KeyRow) → keys ≡ length all.numbers.texts.items → passed ≡ all.nodes.items
      → AreRows keys (λ x. row_from no_row x 1 (map (λ node. node.events.items) passed)) rows → AreRows (log_of ss).keys (row_in (log_of ss)) rows
  rows_held keys passed rows number same r = rows_by_log ss keys passed rows (number ∙ ap length keys_held) (ap (map node_view) same ∙ nodes_held) r

  pub number_held : (n : ℕ) → n ≡ length all.nodes.items → n ≡ (log_of ss).nodes
  number_held n e = e ∙ count_held ∙ sym (log_nodes ss)

  pub readers_held : (n : ℕ) (rows passed : List KeyRow) → n ≡ length all.nodes.items → passed ≡ rows → AreRows (log_of ss).keys (row_in (log_of ss)) rows
      → All (λ row. All (λ r. (0 < r.node) × (r.node ≤ n)) row.readers.items) passed
  readers_held n rows passed e same r =
      let P : ℕ → Type 0 = λ m. All (λ (row : KeyRow). All (λ r. (0 < r.node) × (r.node ≤ m)) row.readers.items) rows in
      let Q : List KeyRow → Type 0 = λ rs. All (λ row. All (λ r. (0 < r.node) × (r.node ≤ n)) row.readers.items) rs in
      subst Q (sym same) (subst P (sym (number_held n e)) (readers_within (log_of ss) rows r))

  pub reads_held : (n : ℕ) (rows passed : List KeyRow) (reads : List (Vec ReadFrom Global)) → all.writes.twice ≡ None → n ≡ length all.nodes.items → passed ≡ rows → AreRows (log_of ss).keys (row_in (log_of ss)) rows
      → AreReads n (λ v. found_in 0 (λ x w. final_node (entry_of all.writes w) x) v (map readers_of passed)) reads → AreReads (log_of ss).nodes (sources_of (log_of ss)) reads
  reads_held n rows passed reads once e same r a =
      let P : List KeyRow → Type 0 = λ rs. AreReads n (λ v. found_in 0 (λ x w. final_node (entry_of all.writes w) x) v (map readers_of rs)) reads in
      reads_by_log (log_of ss) all.writes rows n reads (number_held n e) (ops_past ss) (writes_held once) r (subst P same a)
