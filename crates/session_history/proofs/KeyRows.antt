-- The rows of the keys, operation by operation.
use Rattle.session_history.proofs.Prelude.{◌≡◌, ℕ, zero, suc, ◌+◌, ◌-◌, ◌<◌, Bool, true, false, cond, List, [], ◌∷◌, ◌++◌, length, length-append, map, take, get_or, set, slice_get, Option, Some, None, is_some, refl, sym, ap, subst, ◌∙◌}
use Rattle.session_history.proofs.Prelude.{arith, nat_eq, All, option_map, option_map_or, option_or, eqb-true, eqb-false, eq-eqb, ne_eqb, All-append, All-nil, All-cons, append-nil, map-append, length-map, length-take, length-set, take_more}
use Rattle.session_history.proofs.Prelude.{slice_get-map, slice_get_within, slice_get-get_or, get_or_from_slice_get, Event, last_write, external_read, later, last_write-append, later-None, Node, KeyRow, Reader, RowView, reader_view}
use Rattle.session_history.proofs.Prelude.{row_view, writer_if, reader_if, row_after, row_from, no_row, IsBelow, AreRows, event_key}
use Rattle.std.proofs.Math.Seq.{get_or-append_seam}
use Rattle.serializability.specs.declared.event.Event.TheVariants.{Read, Write}

-- ---- one operation more

external_read_written : (x w : ℕ) (front : List Event) → external_read x (front ++ Write x w ∷ []) ≡ external_read x front
external_read_written x w [] = rw (eq-eqb x x refl)
external_read_written x w (Read k y ∷ front) = ap (cond (nat_eq k x) (Some y)) (external_read_written x w front)
external_read_written x w (Write k y ∷ front) = ap (cond (nat_eq k x) None) (external_read_written x w front)

external_read_more : (x w : ℕ) (front : List Event) → external_read x (front ++ Read x w ∷ []) ≡ option_or (external_read x front) (cond (is_some (last_write x front)) None (Some w))
external_read_more x w [] = rw (eq-eqb x x refl)
external_read_more x w (Read k y ∷ front) = go (nat_eq k x) (external_read_more x w front)
  where
    go : (b : Bool) → external_read x (front ++ Read x w ∷ []) ≡ option_or (external_read x front) (cond (is_some (last_write x front)) None (Some w))
        → cond b (Some y) (external_read x (front ++ Read x w ∷ [])) ≡ option_or (cond b (Some y) (external_read x front)) (cond (is_some (last_write x front)) None (Some w))
    go true e = refl
    go false e = e
external_read_more x w (Write k y ∷ front) = go (nat_eq k x) (external_read_more x w front)
  where
    some_later : (o : Option ℕ) → is_some (later (Some y) o) ≡ true
    some_later None = refl
    some_later (Some z) = refl

    go : (b : Bool) → external_read x (front ++ Read x w ∷ []) ≡ option_or (external_read x front) (cond (is_some (last_write x front)) None (Some w))
        → cond b None (external_read x (front ++ Read x w ∷ [])) ≡ option_or (cond b None (external_read x front)) (cond (is_some (later (cond b (Some y) None) (last_write x front))) None (Some w))
    go true e = ap (λ c. cond c None (Some w)) (sym (some_later (last_write x front)))
    go false e = e ∙ ap (λ o. option_or (external_read x front) (cond (is_some o) None (Some w))) (sym (later-None (last_write x front)))

pub last_write_written : (x w : ℕ) (front : List Event) → last_write x (front ++ Write x w ∷ []) ≡ Some w
last_write_written x w front = last_write-append x front (Write x w ∷ []) ∙ ap (λ b. later (last_write x front) (cond b (Some w) None)) (eq-eqb x x refl)

pub last_write_read : (x k w : ℕ) (front : List Event) → last_write x (front ++ Read k w ∷ []) ≡ last_write x front
last_write_read x k w front = last_write-append x front (Read k w ∷ [])

-- an operation on another key
last_write_apart : (x : ℕ) (e : Event) (front : List Event) → nat_eq (event_key e) x ≡ false → last_write x (front ++ e ∷ []) ≡ last_write x front
last_write_apart x (Read k w) front ne = last_write_read x k w front
last_write_apart x (Write k w) front ne = last_write-append x front (Write k w ∷ []) ∙ ap (λ b. later (last_write x front) (cond b (Some w) None)) ne

external_read_apart : (x : ℕ) (e : Event) (front : List Event) → nat_eq (event_key e) x ≡ false → external_read x (front ++ e ∷ []) ≡ external_read x front
external_read_apart x (Read k w) [] ne = ap (λ b. cond b (Some w) None) ne
external_read_apart x (Write k w) [] ne = ap (λ b. cond b None None) ne
external_read_apart x e (Read k y ∷ front) ne = ap (cond (nat_eq k x) (Some y)) (external_read_apart x e front ne)
external_read_apart x e (Write k y ∷ front) ne = ap (cond (nat_eq k x) None) (external_read_apart x e front ne)

pub row_after_apart : (row : RowView) (x v : ℕ) (e : Event) (front : List Event) → nat_eq (event_key e) x ≡ false → row_after row x v (front ++ e ∷ []) ≡ row_after row x v front
row_after_apart row x v e front ne =
    ap (λ o. record { writers = row.writers ++ writer_if v o; readers = row.readers ++ reader_if v (external_read x (front ++ e ∷ [])) }) (last_write_apart x e front ne)
    ∙ ap (λ o. record { writers = row.writers ++ writer_if v (last_write x front); readers = row.readers ++ reader_if v o }) (external_read_apart x e front ne)

-- ---- whether the last of a row is this node

last_pushed : {X : Type 0} (xs : List X) (y : X) → slice_get (xs ++ y ∷ []) (length (xs ++ y ∷ []) - 1) ≡ Some y
last_pushed xs y =
    let len = length-append xs (y ∷ []) in
    let at : length (xs ++ y ∷ []) - 1 ≡ length xs = omega (arith, len) in
    ap (slice_get (xs ++ y ∷ [])) at ∙ slice_get-get_or (xs ++ y ∷ []) (length xs) y (omega (arith, len)) ∙ ap (λ z. Some z) (get_or-append_seam xs y [] y)

last_apart : {X : Type 0} (node : X → ℕ) (v : ℕ) (xs : List X) (o : Option X) → slice_get xs (length xs - 1) ≡ o → All (λ x. node x < v) xs → option_map_or (λ x. nat_eq (node x) v) o false ≡ false
last_apart node v xs None e h = refl
last_apart node v xs (Some x) e h =
    let below = h (length xs - 1) x (slice_get_within xs (length xs - 1) x e) in
    let is = get_or_from_slice_get xs (length xs - 1) x x e in
    let P : _ → Type 0 = λ y. node y < v in
    let less : node x < v = subst P is below in
    ne_eqb (node x) v (omega arith)

pub last_writer : (v : ℕ) (before : List ℕ) (o : Option ℕ) → All (λ u. u < v) before
    → option_map_or (λ u. nat_eq u v) (slice_get (before ++ writer_if v o) (length (before ++ writer_if v o) - 1)) false ≡ is_some o
last_writer v before None h = let P : List ℕ → Type 0 = λ xs. option_map_or (λ u. nat_eq u v) (slice_get xs (length xs - 1)) false ≡ false in
    subst P (sym (append-nil before)) (last_apart (λ u. u) v before _ refl h)
last_writer v before (Some w) h = ap (λ o. option_map_or (λ u. nat_eq u v) o false) (last_pushed before v) ∙ eq-eqb v v refl

pub last_reader : (v : ℕ) (before : List (ℕ × ℕ)) (o : Option ℕ) → All (λ r. r.0 < v) before
    → option_map_or (λ r. nat_eq r.0 v) (slice_get (before ++ reader_if v o) (length (before ++ reader_if v o) - 1)) false ≡ is_some o
last_reader v before None h = let P : List (ℕ × ℕ) → Type 0 = λ xs. option_map_or (λ r. nat_eq r.0 v) (slice_get xs (length xs - 1)) false ≡ false in
    subst P (sym (append-nil before)) (last_apart (λ r. r.0) v before _ refl h)
last_reader v before (Some w) h = ap (λ o. option_map_or (λ r. nat_eq r.0 v) o false) (last_pushed before (v, w)) ∙ eq-eqb v v refl

-- what is asked of the last reader, by its view
reader_by_view : (v : ℕ) (o : Option Reader) → option_map_or (λ r. nat_eq r.node v) o false ≡ option_map_or (λ p. nat_eq p.0 v) (option_map reader_view o) false
reader_by_view v None = refl
reader_by_view v (Some r) = refl

module _ (row : KeyRow) (before : RowView) (k v : ℕ) (front : List Event) (h : IsBelow v before) (e : row_view row ≡ row_after before k v front) where
  pub is_writer : option_map_or (λ u. nat_eq u v) (slice_get row.writers.items (length row.writers.items - 1)) false ≡ is_some (last_write k front)
  is_writer = ap (λ r. option_map_or (λ u. nat_eq u v) (slice_get r.writers (length r.writers - 1)) false) e ∙ last_writer v before.writers (last_write k front) h.writers

  pub is_reader : option_map_or (λ r. nat_eq r.node v) (slice_get row.readers.items (length row.readers.items - 1)) false ≡ is_some (external_read k front)
  is_reader =
      reader_by_view v (slice_get row.readers.items (length row.readers.items - 1))
      ∙ ap (λ o. option_map_or (λ p. nat_eq p.0 v) o false) (sym (slice_get-map reader_view row.readers.items (length row.readers.items - 1))
      ∙ ap (λ n. slice_get (map reader_view row.readers.items) (n - 1)) (sym (length-map row.readers.items reader_view)))
      ∙ ap (λ r. option_map_or (λ p. nat_eq p.0 v) (slice_get r.readers (length r.readers - 1)) false) e
      ∙ last_reader v before.readers (external_read k front) h.readers

  -- a write that is the first of the node, and one that is not
  pub write_first : (new : KeyRow) (w : ℕ) → is_some (last_write k front) ≡ false → new.writers.items ≡ row.writers.items ++ v ∷ [] → new.readers ≡ row.readers → row_view new ≡ row_after before k v (front ++ Write k w ∷ [])
  write_first new w first pushed same = rw (last_write_written k w front, external_read_written k w front)
      (go (last_write k front) first e)
    where
      go : (o : Option ℕ) → is_some o ≡ false → row_view row ≡ record { writers = before.writers ++ writer_if v o; readers = before.readers ++ reader_if v (external_read k front) }
          → row_view new ≡ record { writers = before.writers ++ v ∷ []; readers = before.readers ++ reader_if v (external_read k front) }
      go None f g =
          ap (λ ws. record { writers = ws; readers = map reader_view new.readers.items }) (pushed ∙ ap (λ ws. ws ++ v ∷ []) (ap (λ r. r.writers) g ∙ append-nil before.writers))
          ∙ ap (λ rs. record { writers = before.writers ++ v ∷ []; readers = rs }) (ap (λ r. map reader_view r.items) same ∙ ap (λ r. r.readers) g)
      go (Some w) f g = cc

  pub write_again : (w : ℕ) → is_some (last_write k front) ≡ true → row_view row ≡ row_after before k v (front ++ Write k w ∷ [])
  write_again w again = rw (last_write_written k w front, external_read_written k w front) (go (last_write k front) again e)
    where
      go : (o : Option ℕ) → is_some o ≡ true → row_view row ≡ record { writers = before.writers ++ writer_if v o; readers = before.readers ++ reader_if v (external_read k front) }
          → row_view row ≡ record { writers = before.writers ++ v ∷ []; readers = before.readers ++ reader_if v (external_read k front) }
      go None f g = cc
      go (Some w) f g = g

  -- a read that is the first operation on the key, and one that is not
  pub read_first : (new : KeyRow) (r : Reader) (w : ℕ) → is_some (last_write k front) ≡ false → is_some (external_read k front) ≡ false → new.readers.items ≡ row.readers.items ++ r ∷ [] → reader_view r ≡ (v, w) → new.writers ≡ row.writers
      → row_view new ≡ row_after before k v (front ++ Read k w ∷ [])
  read_first new r w unwritten unread pushed is_view same = rw (last_write_read k k w front, external_read_more k w front)
      (go (last_write k front) unwritten (external_read k front) unread e)
    where
      go : (o : Option ℕ) → is_some o ≡ false → (q : Option ℕ) → is_some q ≡ false → row_view row ≡ record { writers = before.writers ++ writer_if v o; readers = before.readers ++ reader_if v q }
          → row_view new ≡ record { writers = before.writers ++ writer_if v o; readers = before.readers ++ reader_if v (option_or q (cond (is_some o) None (Some w))) }
      go None f None f' g =
          ap (λ ws. record { writers = ws; readers = map reader_view new.readers.items }) (ap (λ l. l.items) same ∙ ap (λ r. r.writers) g)
          ∙ ap (λ rs. record { writers = before.writers ++ []; readers = rs }) (ap (map reader_view) pushed ∙ map-append reader_view row.readers.items (r ∷ [])
          ∙ ap (λ rs. rs ++ reader_view r ∷ []) (ap (λ r. r.readers) g ∙ append-nil before.readers) ∙ ap (λ p. before.readers ++ p ∷ []) is_view)
      go (Some y) f q f' g = cc
      go None f (Some y) f' g = cc

  pub read_written : (w : ℕ) → is_some (last_write k front) ≡ true → row_view row ≡ row_after before k v (front ++ Read k w ∷ [])
  read_written w written = rw (last_write_read k k w front, external_read_more k w front) (go (last_write k front) written (external_read k front) e)
    where
      go : (o : Option ℕ) → is_some o ≡ true → (q : Option ℕ) → row_view row ≡ record { writers = before.writers ++ writer_if v o; readers = before.readers ++ reader_if v q }
          → row_view row ≡ record { writers = before.writers ++ writer_if v o; readers = before.readers ++ reader_if v (option_or q (cond (is_some o) None (Some w))) }
      go None f q g = cc
      go (Some y) f None g = g
      go (Some y) f (Some z) g = g

  pub read_again : (w : ℕ) → is_some (external_read k front) ≡ true → row_view row ≡ row_after before k v (front ++ Read k w ∷ [])
  read_again w again = rw (last_write_read k k w front, external_read_more k w front) (go (last_write k front) (external_read k front) again e)
    where
      go : (o q : Option ℕ) → is_some q ≡ true → row_view row ≡ record { writers = before.writers ++ writer_if v o; readers = before.readers ++ reader_if v q }
          → row_view row ≡ record { writers = before.writers ++ writer_if v o; readers = before.readers ++ reader_if v (option_or q (cond (is_some o) None (Some w))) }
      go o None f g = cc
      go o (Some z) f g = g

-- ---- the rows of all keys

pub rows_same : (keys : ℕ) (f g : ℕ → RowView) (rows : List KeyRow) → ((x : ℕ) → x < keys → f x ≡ g x) → AreRows keys f rows → AreRows keys g rows
rows_same keys f g rows e h = record {
  count = h.count;
  each = λ x lt. h.each x lt ∙ ap (λ r. Some r) (e x lt);
}

pub slice_get-set_here : {X : Type 0} (xs : List X) (k : ℕ) (y : X) → k < length xs → slice_get (set xs k y) k ≡ Some y
slice_get-set_here [] k y h = absurd (omega arith)
slice_get-set_here (x ∷ xs) zero y h = refl
slice_get-set_here (x ∷ xs) (suc k) y h = slice_get-set_here xs k y (omega arith)

pub slice_get-set_apart : {X : Type 0} (xs : List X) (k j : ℕ) (y : X) → nat_eq k j ≡ false → slice_get (set xs k y) j ≡ slice_get xs j
slice_get-set_apart [] k j y h = refl
slice_get-set_apart (x ∷ xs) zero zero y h = cc
slice_get-set_apart (x ∷ xs) zero (suc j) y h = refl
slice_get-set_apart (x ∷ xs) (suc k) zero y h = refl
slice_get-set_apart (x ∷ xs) (suc k) (suc j) y h = slice_get-set_apart xs k j y (ne_eqb k j (λ same. eqb-false (suc k) (suc j) h (ap suc same)))

-- one row changed
pub rows_entered : (keys v : ℕ) (f : ℕ → RowView) (rows : List KeyRow) (old new : KeyRow) (k : ℕ) (e : Event) (front : List Event) → k ≡ event_key e → k < length rows
    → slice_get rows k ≡ Some old
    → (row_view old ≡ row_after (f k) k v front → row_view new ≡ row_after (f k) k v (front ++ e ∷ []))
    → AreRows keys (λ x. row_after (f x) x v front) rows → AreRows keys (λ x. row_after (f x) x v (front ++ e ∷ [])) (set rows k new)
rows_entered keys v f rows old new k e front is_key within at step h = record {
  count = length-set rows k new ∙ h.count;
  each = λ x lt. go x lt (nat_eq k x) refl;
}
  where
    go : (x : ℕ) → x < keys → (b : Bool) → nat_eq k x ≡ b → option_map row_view (slice_get (set rows k new) x) ≡ Some (row_after (f x) x v (front ++ e ∷ []))
    go x lt true same =
        let is = eqb-true k x same in
        let P : ℕ → Type 0 = λ j. option_map row_view (slice_get (set rows k new) j) ≡ Some (row_after (f j) j v (front ++ e ∷ [])) in
        let below : k < keys = omega (arith, is, lt) in
        let old_is : row_view old ≡ row_after (f k) k v front = some_same _ _ (sym (ap (option_map row_view) at) ∙ h.each k below) in
        subst P is (ap (option_map row_view) (slice_get-set_here rows k new within) ∙ ap (λ r. Some r) (step old_is))
      where
        some_same : (a b : RowView) → Some a ≡ Some b → a ≡ b
        some_same a b e = cc
    go x lt false apart = ap (option_map row_view) (slice_get-set_apart rows k x new apart) ∙ h.each x lt
        ∙ ap (λ r. Some r) (sym (row_after_apart (f x) x v e front (ap (λ j. nat_eq j x) (sym is_key) ∙ apart)))

-- ---- node by node

below_after : (row : RowView) (x v : ℕ) (ops : List Event) → IsBelow v row → IsBelow (v + 1) (row_after row x v ops)
below_after row x v ops h = record {
  writers = All-append (λ u. u < v + 1) row.writers (writer_if v (last_write x ops)) (λ k d lt. let less = h.writers k d lt in omega arith) (one (last_write x ops));
  readers = All-append (λ r. r.0 < v + 1) row.readers (reader_if v (external_read x ops)) (λ k d lt. let less = h.readers k d lt in omega arith) (two (external_read x ops));
}
  where
    one : (o : Option ℕ) → All (λ u. u < v + 1) (writer_if v o)
    one None = All-nil (λ u. u < v + 1)
    one (Some w) = All-cons (λ u. u < v + 1) v [] (omega arith) (All-nil (λ u. u < v + 1))

    two : (o : Option ℕ) → All (λ r. r.0 < v + 1) (reader_if v o)
    two None = All-nil (λ r. r.0 < v + 1)
    two (Some w) = All-cons (λ r. r.0 < v + 1) (v, w) [] (omega arith) (All-nil (λ r. r.0 < v + 1))

pub below_from : (row : RowView) (x v : ℕ) (nodes : List (List Event)) → IsBelow v row → IsBelow (v + length nodes) (row_from row x v nodes)
below_from row x v [] h = let P : ℕ → Type 0 = λ n. IsBelow n row in subst P (omega arith) h
below_from row x v (ops ∷ nodes) h =
    let P : ℕ → Type 0 = λ n. IsBelow n (row_from (row_after row x v ops) x (v + 1) nodes) in
    subst P (omega arith) (below_from (row_after row x v ops) x (v + 1) nodes (below_after row x v ops h))

pub below_none : (v : ℕ) → IsBelow v no_row
below_none v = record { writers = All-nil (λ u. u < v); readers = All-nil (λ r. r.0 < v) }

pub row_from_push : (row : RowView) (x v : ℕ) (nodes : List (List Event)) (ops : List Event) → row_from row x v (nodes ++ ops ∷ []) ≡ row_after (row_from row x v nodes) x (v + length nodes) ops
row_from_push row x v [] ops = ap (λ n. row_after row x n ops) (omega arith)
row_from_push row x v (first ∷ nodes) ops = row_from_push (row_after row x v first) x (v + 1) nodes ops ∙ ap (λ n. row_after (row_from (row_after row x v first) x (v + 1) nodes) x n ops) (omega arith)

-- one node more
length-taken : (nodes : List Node) (i : ℕ) → i < length nodes → length (map (λ (node : Node). node.events.items) (take i nodes)) ≡ i
length-taken nodes i h = length-map (take i nodes) _ ∙ length-take i nodes ∙ omega arith

pub node_below : (nodes : List Node) (i v x : ℕ) → i < length nodes → v ≡ i + 1 → IsBelow v (row_from no_row x 1 (map (λ node. node.events.items) (take i nodes)))
node_below nodes i v x h e =
    let P : ℕ → Type 0 = λ n. IsBelow n (row_from no_row x 1 (map (λ (node : Node). node.events.items) (take i nodes))) in
    subst P (let len = length-taken nodes i h in omega (arith, len, e)) (below_from no_row x 1 (map (λ node. node.events.items) (take i nodes)) (below_none 1))

pub node_rows_more : (keys : ℕ) (nodes : List Node) (i v : ℕ) (node : Node) (passed : List Event) (rows : List KeyRow) → i < length nodes → node ≡ get_or nodes i node → v ≡ i + 1 → passed ≡ node.events.items
    → AreRows keys (λ x. row_after (row_from no_row x 1 (map (λ n. n.events.items) (take i nodes))) x v passed) rows
    → AreRows keys (λ x. row_from no_row x 1 (map (λ n. n.events.items) (take (i + 1) nodes))) rows
node_rows_more keys nodes i v node passed rows h at number is rows_are =
    rows_same keys _ _ rows (λ x _.
    ap (λ n. row_after (row_from no_row x 1 (map (λ (m : Node). m.events.items) (take i nodes))) x n passed) (let len = length-taken nodes i h in omega (arith, len, number))
    ∙ ap (row_after (row_from no_row x 1 (map (λ (m : Node). m.events.items) (take i nodes))) x (1 + length (map (λ (m : Node). m.events.items) (take i nodes)))) is
    ∙ sym (row_from_push no_row x 1 (map (λ (m : Node). m.events.items) (take i nodes)) node.events.items)
    ∙ ap (row_from no_row x 1) (sym (ap (map (λ (m : Node). m.events.items)) (take_more nodes i node h ∙ ap (λ y. take i nodes ++ y ∷ []) (sym at)) ∙ map-append (λ (m : Node). m.events.items) (take i nodes) (node ∷ []))))
    rows_are

-- the same, where the step is told at the operation's key
pub rows_entered_at : (keys v : ℕ) (f : ℕ → RowView) (rows : List KeyRow) (old new : KeyRow) (k : ℕ) (e : Event) (front : List Event) → k ≡ event_key e → k < length rows
    → slice_get rows k ≡ Some old
    → (event_key e < keys → row_view old ≡ row_after (f (event_key e)) (event_key e) v front → row_view new ≡ row_after (f (event_key e)) (event_key e) v (front ++ e ∷ []))
    → AreRows keys (λ x. row_after (f x) x v front) rows → AreRows keys (λ x. row_after (f x) x v (front ++ e ∷ [])) (set rows k new)
rows_entered_at keys v f rows old new k e front is_key within at step h =
    let P : ℕ → Type 0 = λ j. j < length rows → slice_get rows j ≡ Some old → AreRows keys (λ x. row_after (f x) x v (front ++ e ∷ [])) (set rows j new) in
    subst P (sym is_key) (λ within at. rows_entered keys v f rows old new (event_key e) e front refl within at (step (omega (arith, h.count, within))) h) within at
