-- Where the nodes stand.
use Rattle.std.proofs.Common.{◌≡◌, ℕ, zero, suc, ◌+◌, ◌<◌, ◌≤◌, Bool, List, [], ◌∷◌, ◌++◌, length, map, get_or, slice_get, Some, refl, sym, ap, ◌∙◌, subst, arith, option_and_then}
use Rattle.std.specs.List.{AllZip, flat_map, filter, enumerate_from}
use Rattle.std.specs.Option.{option_map_or}
use Rattle.std.proofs.lemmas.Slice.Zip.{AllZip-long}
use Rattle.session_log.specs.Text.{ClientSession, Transaction}
use Rattle.log_definitions.specs.Unknown.{is_committed, settle, settled, taken, resolved}
use Rattle.log_definitions.specs.Serial.{Committed, committed_of, committed_in, node_of}
use Rattle.session_history.specs.Tables.{name_in}
use Rattle.log_lines.specs.Rows.{TxnRow, Table, Fits, no_row, row_at, view_place, rows_of}
use Rattle.log_lines.specs.Places.{StandsAt, NodeStandsAt, AreNodeRows}
use Rattle.log_lines.specs.NodeRows.{node_rows, node_table}
use Rattle.log_lines.specs.declared.placed.PlacedHistory.{PlacedHistory}

-- a node's transaction has this row
record IsOf (ss : List ClientSession) (table : Table) (c : Committed) (row : TxnRow) : Type 0 where
  pub t : Transaction
  pub ops : t.ops ≡ c.ops
  pub begun : t.begun ≡ c.begun
  pub ended : t.ended ≡ c.ended
  pub stands : StandsAt ss table c.session c.place t row

-- ---- two lists, place by place

zip_append : {A B : Type 0} (R : A → B → Type 0) (xs : List A) (ys : List B) (us : List A) (vs : List B) → AllZip R xs ys → AllZip R us vs → AllZip R (xs ++ us) (ys ++ vs)
zip_append R [] ys us vs h k = grind arith
zip_append R (x ∷ xs) [] us vs h k = absurd h
zip_append R (x ∷ xs) (y ∷ ys) us vs h k = (h.0, zip_append R xs ys us vs h.1 k)

zip_at : {A B : Type 0} (R : A → B → Type 0) (d : B) (xs : List A) (ys : List B) (i : ℕ) → AllZip R xs ys → i < length xs → (x : A) × ((slice_get xs i ≡ Some x) × R x (get_or ys i d))
zip_at R d [] ys i h lt = absurd (omega arith)
zip_at R d (x ∷ xs) [] i h lt = absurd h
zip_at R d (x ∷ xs) (y ∷ ys) zero h lt = (x, (refl, h.0))
zip_at R d (x ∷ xs) (y ∷ ys) (suc i) h lt = zip_at R d xs ys i h.1 (omega arith)

-- from place k on, all are these
abbrev Continues : {X : Type 0} → List X → ℕ → List X → Type 0
Continues all k xs = (j : ℕ) → slice_get all (k + j) ≡ slice_get xs j

further : {X : Type 0} (all : List X) (k : ℕ) (x : X) (xs : List X) → Continues all k (x ∷ xs) → Continues all (k + 1) xs
further all k x xs h = λ j. (let next : k + 1 + j ≡ k + suc j = omega arith in ap (slice_get all) next ∙ h (suc j))

from_start : {X : Type 0} (all : List X) → Continues all 0 all
from_start all = λ j. (let same : 0 + j ≡ j = omega arith in ap (slice_get all) same)

-- ---- session by session

abbrev committed_at : ℕ → ℕ × Transaction → Committed
committed_at number p = record { session = number; place = p.0; ops = p.1.ops; begun = p.1.begun; ended = p.1.ended }

-- the nodes of a session's transactions, of which the first has this place
abbrev kept_from : Bool → ℕ → ℕ → List Transaction → List Committed
kept_from is_taken number place ts = map (committed_at number) (filter (λ p. is_committed p.1) (enumerate_from place (map (settle is_taken) ts)))

abbrev pub counts : List TxnRow → List ℕ
counts rows = map (λ row. length row.ops) rows

abbrev pub counts_in : List Transaction → List ℕ
counts_in ts = map (λ t. length t.ops) ts

module _ (ss : List ClientSession) (table : Table) where
  of_txns : (a : ℕ) (s : ClientSession) (all : List TxnRow) → slice_get ss a ≡ Some s → slice_get table a ≡ Some all → (is_taken : Bool) (k place : ℕ) → place ≡ k + 1 → (ts : List Transaction) (rows : List TxnRow)
      → Continues s.txns k ts → Continues all k rows → counts rows ≡ counts_in ts → AllZip (IsOf ss table) (kept_from is_taken s.number place ts) (node_rows is_taken ts rows)
  of_txns a s all e g is_taken k place at [] rows f h fits = tt
  of_txns a s all e g is_taken k place at (t ∷ ts) [] f h fits = cc
  of_txns a s all e g is_taken k place at (t ∷ ts) (row ∷ rows) f h fits =
      let here : IsOf ss table (committed_at s.number (place, settle is_taken t)) row = record {
        t = t;
        ops = refl;
        begun = refl;
        ended = refl;
        stands = record { at = a; index = k + 0; of = s; rows = all; sessions = e; tables = g; number = refl; stands = omega (arith, at); txn = f 0; has = h 0; lines = cc };
      } in
      let later = of_txns a s all e g is_taken (k + 1) (place + 1) (omega (arith, at)) ts rows (further s.txns k t ts f) (further all k row rows h) cc in
      grind arith

  of_sessions : (chosen : ℕ → Bool) (k : ℕ) (those : List ClientSession) (tables : Table) → Continues ss k those → Continues table k tables → Fits those tables → AllZip (IsOf ss table) (flat_map committed_of (settled chosen those)) (node_table chosen those tables)
  unfolding settled
  of_sessions chosen k [] tables f h fits = tt
  of_sessions chosen k (s ∷ those) [] f h fits = cc
  of_sessions chosen k (s ∷ those) (rows ∷ tables) f h fits =
      let here = of_txns (k + 0) s rows (f 0) (h 0) (chosen s.number) 0 1 refl s.txns rows (from_start s.txns) (from_start rows) cc in
      zip_append (IsOf ss table) (kept_from (chosen s.number) s.number 1 s.txns) (node_rows (chosen s.number) s.txns rows) (flat_map committed_of (settled chosen those)) (node_table chosen those tables) here
      (of_sessions chosen (k + 1) those tables (further ss k s those f) (further table k rows tables h) cc)

-- ---- node by node

of_nodes : (ss : List ClientSession) (table : Table) → Fits ss table → AllZip (IsOf ss table) (committed_in ss) (node_table (taken ss) ss table)
unfolding committed_in resolved
of_nodes ss table fits = of_sessions ss table (taken ss) 0 ss table (from_start ss) (from_start table) fits

at_node : (ss : List ClientSession) (table : Table) (v : ℕ) (row : TxnRow) (c : Committed) → node_of ss v ≡ Some c → IsOf ss table c row → NodeStandsAt ss table v row
at_node ss table v row c e h =
    let name : name_in ss v ≡ (c.session, c.place) = ap (λ o. option_map_or (λ (node : Committed). (node.session, node.place)) o (0, 0)) e in
    let P : ℕ × ℕ → Type 0 = λ p. StandsAt ss table p.0 p.1 h.t row in
    record {
      t = h.t;
      ops = h.ops ∙ sym (ap (λ o. option_map_or (λ (node : Committed). node.ops) o []) e);
      begun = h.begun ∙ sym (ap (option_and_then (λ (node : Committed). node.begun)) e);
      ended = h.ended ∙ sym (ap (option_and_then (λ (node : Committed). node.ended)) e);
      stands = subst P (sym name) h.stands;
    }

each_node : (ss : List ClientSession) (table : Table) (rows : List TxnRow) → AllZip (IsOf ss table) (committed_in ss) rows → (v : ℕ) → 0 < v → v ≤ length (committed_in ss) → NodeStandsAt ss table v (row_at rows v)
unfolding node_of
each_node ss table rows all zero low high = absurd (omega arith)
each_node ss table rows all (suc i) low high =
    let found = zip_at (IsOf ss table) no_row (committed_in ss) rows i all (omega arith) in
    at_node ss table (suc i) (get_or rows i no_row) found.0 found.1.0 found.1.1

pub placed_rows : (log : PlacedHistory) → AreNodeRows log.history.now (rows_of log.places.now) (map (λ p. view_place p.now) log.nodes.items)
placed_rows log =
    let ss = log.history.now in
    let table = rows_of log.places.now in
    let rows = map (λ p. view_place p.now) log.nodes.items in
    let all = subst (λ l. AllZip (IsOf ss table) (committed_in ss) l) (sym log.rows) (of_nodes ss table log.fits) in
    record { count = AllZip-long (IsOf ss table) (committed_in ss) rows all; each = λ v low high. each_node ss table rows all v low high }
