-- Transactions, one after the other.
use Rattle.session_history.proofs.Prelude.{◌≡◌, ℕ, ◌+◌, ◌<◌, Bool, true, false, cond, List, [], ◌∷◌, ◌++◌, length, length-append, map, Option, take, drop, get_or, count_by, refl, sym, ap, subst, ◌∙◌, arith, append_assoc, flat_map}
use Rattle.session_history.proofs.Prelude.{append-nil, map-append, length-map, length-take, drop_more, flat_map-append, sum_by-cons, sum_by-append, ClientSession, Transaction, view, view_txn, op_line, end_line, txn_lines, session_lines}
use Rattle.session_history.proofs.Prelude.{Txn, Session, Op, Read, Write, Outcome, Commit, Abort, Unknown, Event, is_committed, txns_in, settle, settled, first_seen, writes_from, log_lines, key_of, events_of, writes_from-append, Node}
use Rattle.session_history.proofs.Prelude.{Transactions, HasSeen, HasWrites, writes_at, Placed, placed_from, placed_in, NumberedNode, node_view, nodes_among, numbered_from, keys_among, Takes, IsStart, HoldsAll}
use Rattle.session_log.specs.declared.line.Line.{Line}
use Rattle.session_log.specs.declared.line.Line.TheVariants as line
use Rattle.session_history.proofs.Stepping.{step, step_in}
use Rattle.session_history.proofs.Seen.{seen_append}

-- ---- lines

pub length-txn_lines : (t : Transaction) → length (txn_lines t) ≡ length t.ops + 2
length-txn_lines t =
    let a = length-append (line.Begin t.begun ∷ map op_line t.ops) (end_line t.outcome t.ended ∷ []) in
    let b = length-map t.ops op_line in
    omega (arith, a, b)

writes_in_txn : (keys : List (List ℕ)) (n : ℕ) (ops : List Op) (o : Outcome) (ended : Option ℕ) → writes_from n (map op_line ops ++ end_line o ended ∷ []) ≡ writes_at n (events_of keys ops)
writes_in_txn keys n [] Commit ended = refl
writes_in_txn keys n [] Abort ended = refl
writes_in_txn keys n [] Unknown ended = refl
writes_in_txn keys n (Read k w ∷ ops) o ended = writes_in_txn keys (n + 1) ops o ended
writes_in_txn keys n (Write k w ∷ ops) o ended = ap (λ xs. (n, w) ∷ xs) (writes_in_txn keys (n + 1) ops o ended)

-- ---- one transaction

-- what is passed on, of the operations and of their numbered form, is what is there
module _ (old new : Transactions) (t : Transaction) (is_taken : Bool) (session place : ℕ) (passed : List Op) (events given : List Event)
    (passed_is : passed ≡ t.ops) (given_is : given ≡ events)
    (keys : new.numbers.texts.items ≡ first_seen old.numbers.texts.items (map key_of passed))
    (numbered_passed : (later : List (List ℕ)) → events ≡ events_of (first_seen new.numbers.texts.items later) passed)
    (line : new.writes.line ≡ old.writes.line + (length given + 2))
    (seen_given : (lines : List (ℕ × ℕ)) → HasSeen lines old.writes → HasSeen (lines ++ writes_at (old.writes.line + 1) given) new.writes) where
  numbered : (later : List (List ℕ)) → given ≡ events_of (first_seen new.numbers.texts.items later) t.ops
  numbered later = given_is ∙ numbered_passed later ∙ ap (events_of (first_seen new.numbers.texts.items later)) passed_is

  keys_one : new.numbers.texts.items ≡ first_seen old.numbers.texts.items (keys_among ((session, place, settle is_taken t) ∷ []))
  keys_one = keys ∙ ap (λ os. first_seen old.numbers.texts.items (map key_of os)) (passed_is ∙ sym (append-nil t.ops))

  line_one : new.writes.line ≡ old.writes.line + length (txn_lines t)
  line_one =
      let same = ap length (numbered []) ∙ length-map t.ops _ in
      let lines = length-txn_lines t in
      omega (arith, line, same, lines)

  seen_one : (before : List (ℕ × ℕ)) → HasSeen before old.writes → HasSeen (before ++ writes_from old.writes.line (txn_lines t)) new.writes
  seen_one before h =
      let P : List (ℕ × ℕ) → Type 0 = λ ls. HasSeen (before ++ ls) new.writes in
      subst P (ap (writes_at (old.writes.line + 1)) (numbered []) ∙ sym (writes_in_txn (first_seen new.numbers.texts.items []) (old.writes.line + 1) t.ops t.outcome t.ended)) (seen_given before h)

  pub takes_committed : (node : Node) (v : ℕ) → is_committed (settle is_taken t) ≡ true → v ≡ length old.nodes.items + 1
      → new.nodes.items ≡ old.nodes.items ++ node ∷ [] → node_view node ≡ record { session = session; place = place; events = events; begun = t.begun; ended = t.ended }
      → ((txns : List (ℕ × List Event)) → HasWrites txns old.writes → HasWrites (txns ++ (v, given) ∷ []) new.writes)
      → Takes old new (txn_lines t) ((session, place, settle is_taken t) ∷ [])
  takes_committed node v is number pushed is_view writes = record {
    keys = keys_one;
    nodes = λ more. ap (map node_view) pushed ∙ map-append node_view old.nodes.items (node ∷ [])
        ∙ ap (λ n. map node_view old.nodes.items ++ n ∷ []) (is_view ∙ ap (λ es. record { session = session; place = place; events = es; begun = t.begun; ended = t.ended }) (sym given_is ∙ numbered more))
        ∙ ap (λ b. map node_view old.nodes.items ++ cond b (record { session = session; place = place; events = events_of (first_seen new.numbers.texts.items more) t.ops; begun = t.begun; ended = t.ended } ∷ []) []) (sym is);
    line = line_one;
    seen = seen_one;
    writes = λ before more h.
        let P : List (ℕ × List Event) → Type 0 = λ ts. HasWrites (before ++ ts) new.writes in
        subst P (ap (λ n. (n, given) ∷ []) number ∙ ap (λ es. (length old.nodes.items + 1, es) ∷ []) (numbered more)
        ∙ ap (λ b. cond b ((length old.nodes.items + 1, events_of (first_seen new.numbers.texts.items more) t.ops) ∷ []) ((0, events_of (first_seen new.numbers.texts.items more) t.ops) ∷ [])) (sym is)) (writes before h);
  }

  pub takes_aborted : is_committed (settle is_taken t) ≡ false → new.nodes.items ≡ old.nodes.items
      → ((txns : List (ℕ × List Event)) → HasWrites txns old.writes → HasWrites (txns ++ (0, given) ∷ []) new.writes)
      → Takes old new (txn_lines t) ((session, place, settle is_taken t) ∷ [])
  takes_aborted is same writes = record {
    keys = keys_one;
    nodes = λ more. ap (map node_view) same ∙ sym (append-nil (map node_view old.nodes.items))
        ∙ ap (λ b. map node_view old.nodes.items ++ cond b (record { session = session; place = place; events = events_of (first_seen new.numbers.texts.items more) t.ops; begun = t.begun; ended = t.ended } ∷ []) []) (sym is);
    line = line_one;
    seen = seen_one;
    writes = λ before more h.
        let P : List (ℕ × List Event) → Type 0 = λ ts. HasWrites (before ++ ts) new.writes in
        subst P (ap (λ es. (0, es) ∷ []) (numbered more)
        ∙ ap (λ b. cond b ((length old.nodes.items + 1, events_of (first_seen new.numbers.texts.items more) t.ops) ∷ []) ((0, events_of (first_seen new.numbers.texts.items more) t.ops) ∷ [])) (sym is)) (writes before h);
  }

-- ---- one after the other

pub nodes_among-append : (keys : List (List ℕ)) (a b : List Placed) → nodes_among keys (a ++ b) ≡ nodes_among keys a ++ nodes_among keys b
nodes_among-append keys [] b = refl
nodes_among-append keys (t ∷ a) b = go (is_committed t.2) (nodes_among-append keys a b)
  where
    node : NumberedNode
    node = record { session = t.0; place = t.1; events = events_of keys t.2.ops; begun = t.2.begun; ended = t.2.ended }

    go : (c : Bool) → nodes_among keys (a ++ b) ≡ nodes_among keys a ++ nodes_among keys b
        → cond c (node ∷ nodes_among keys (a ++ b)) (nodes_among keys (a ++ b)) ≡ cond c (node ∷ nodes_among keys a) (nodes_among keys a) ++ nodes_among keys b
    go true e = ap (λ l. node ∷ l) e
    go false e = e

numbered_from-append : (n m : ℕ) (keys : List (List ℕ)) (a b : List Placed) → m ≡ n + length (nodes_among keys a) → numbered_from n keys (a ++ b) ≡ numbered_from n keys a ++ numbered_from m keys b
numbered_from-append n m keys [] b e = ap (λ k. numbered_from k keys b) (omega (arith, e))
numbered_from-append n m keys (t ∷ a) b e = go (is_committed t.2) e (numbered_from-append (n + 1) m keys a b) (numbered_from-append n m keys a b)
  where
    node : NumberedNode
    node = record { session = t.0; place = t.1; events = events_of keys t.2.ops; begun = t.2.begun; ended = t.2.ended }

    go : (c : Bool) → m ≡ n + length (cond c (node ∷ nodes_among keys a) (nodes_among keys a))
        → (m ≡ n + 1 + length (nodes_among keys a) → numbered_from (n + 1) keys (a ++ b) ≡ numbered_from (n + 1) keys a ++ numbered_from m keys b)
        → (m ≡ n + length (nodes_among keys a) → numbered_from n keys (a ++ b) ≡ numbered_from n keys a ++ numbered_from m keys b)
        → cond c ((n + 1, events_of keys t.2.ops) ∷ numbered_from (n + 1) keys (a ++ b)) ((0, events_of keys t.2.ops) ∷ numbered_from n keys (a ++ b))
        ≡ cond c ((n + 1, events_of keys t.2.ops) ∷ numbered_from (n + 1) keys a) ((0, events_of keys t.2.ops) ∷ numbered_from n keys a) ++ numbered_from m keys b
    go true e f g = ap (λ l. (n + 1, events_of keys t.2.ops) ∷ l) (f (omega (arith, e)))
    go false e f g = ap (λ l. (0, events_of keys t.2.ops) ∷ l) (g e)

keys_among-append : (a b : List Placed) → keys_among (a ++ b) ≡ keys_among a ++ keys_among b
keys_among-append a b = ap (map key_of) (flat_map-append (λ t. t.2.ops) a b) ∙ map-append key_of (flat_map (λ t. t.2.ops) a) (flat_map (λ t. t.2.ops) b)

pub takes_none : (a : Transactions) → Takes a a [] []
takes_none a = record {
  keys = refl;
  nodes = λ more. sym (append-nil (map node_view a.nodes.items));
  line = omega arith;
  seen = λ before h. let P : List (ℕ × ℕ) → Type 0 = λ ls. HasSeen ls a.writes in subst P (sym (append-nil before)) h;
  writes = λ before more h. let P : List (ℕ × List Event) → Type 0 = λ ls. HasWrites ls a.writes in subst P (sym (append-nil before)) h;
}

pub takes_more : (a b c : Transactions) (l1 l2 : List Line) (t1 t2 : List Placed) → Takes a b l1 t1 → Takes b c l2 t2 → Takes a c (l1 ++ l2) (t1 ++ t2)
takes_more a b c l1 l2 t1 t2 h k = record {
  keys = k.keys ∙ ap (λ ks. first_seen ks (keys_among t2)) h.keys ∙ sym (seen_append a.numbers.texts.items (keys_among t1) (keys_among t2))
      ∙ ap (first_seen a.numbers.texts.items) (sym (keys_among-append t1 t2));
  nodes = λ more. k.nodes more ∙ ap (λ ns. ns ++ nodes_among (keys more) t2) (h.nodes (keys_among t2 ++ more) ∙ ap (λ ks. map node_view a.nodes.items ++ nodes_among ks t1) (grown more))
      ∙ append_assoc (map node_view a.nodes.items) (nodes_among (keys more) t1) (nodes_among (keys more) t2)
      ∙ ap (λ ns. map node_view a.nodes.items ++ ns) (sym (nodes_among-append (keys more) t1 t2));
  line = let len = length-append l1 l2 in omega (arith, h.line, k.line, len);
  seen = λ before s.
      let P : List (ℕ × ℕ) → Type 0 = λ ls. HasSeen ls c.writes in
      subst P (append_assoc before (writes_from a.writes.line l1) (writes_from b.writes.line l2)
      ∙ ap (λ ls. before ++ ls) (ap (λ n. writes_from a.writes.line l1 ++ writes_from n l2) h.line ∙ sym (writes_from-append a.writes.line l1 l2)))
      (k.seen (before ++ writes_from a.writes.line l1) (h.seen before s));
  writes = λ before more w.
      let P : List (ℕ × List Event) → Type 0 = λ ls. HasWrites ls c.writes in
      subst P (append_assoc before (numbered_from (length a.nodes.items) (first_seen b.numbers.texts.items (keys_among t2 ++ more)) t1) (numbered_from (length b.nodes.items) (keys more) t2)
      ∙ ap (λ ls. before ++ ls) (ap (λ ks. numbered_from (length a.nodes.items) ks t1 ++ numbered_from (length b.nodes.items) (keys more) t2) (grown more)
      ∙ sym (numbered_from-append (length a.nodes.items) (length b.nodes.items) (keys more) t1 t2 (counted more))))
      (k.writes (before ++ numbered_from (length a.nodes.items) (first_seen b.numbers.texts.items (keys_among t2 ++ more)) t1) more (h.writes before (keys_among t2 ++ more) w));
}
  where
    keys : List (List ℕ) → List (List ℕ)
    keys more = first_seen c.numbers.texts.items more

    grown : (more : List (List ℕ)) → first_seen b.numbers.texts.items (keys_among t2 ++ more) ≡ keys more
    grown more = seen_append b.numbers.texts.items (keys_among t2) more ∙ ap (λ ks. first_seen ks more) (sym k.keys)

    counted : (more : List (List ℕ)) → length b.nodes.items ≡ length a.nodes.items + length (nodes_among (keys more) t1)
    counted more =
        let e = ap length (h.nodes (keys_among t2 ++ more) ∙ ap (λ ks. map node_view a.nodes.items ++ nodes_among ks t1) (grown more)) in
        let f = length-append (map node_view a.nodes.items) (nodes_among (keys more) t1) in
        let l = length-map a.nodes.items node_view in
        let m = length-map b.nodes.items node_view in
        omega (arith, e, f, l, m)

pub takes_header : (a b : Transactions) (number : ℕ) → b.numbers ≡ a.numbers → b.nodes ≡ a.nodes → b.writes ≡ record a.writes { line = a.writes.line + 1 } → Takes a b (line.Session number ∷ []) []
takes_header a b number numbers nodes writes = record {
  keys = ap (λ n. n.texts.items) numbers;
  nodes = λ more. ap (λ n. map node_view n.items) nodes ∙ sym (append-nil (map node_view a.nodes.items));
  line = ap (λ w. w.line) writes;
  seen = λ before h.
      let P : List (ℕ × ℕ) → Type 0 = λ ls. HasSeen ls b.writes in
      let Q : _ → Type 0 = λ w. HasSeen before w in
      subst P (sym (append-nil before)) (subst Q (sym writes) (record { twice = h.twice; seen = h.seen }));
  writes = λ before more h.
      let P : List (ℕ × List Event) → Type 0 = λ ls. HasWrites ls b.writes in
      let Q : _ → Type 0 = λ w. HasWrites before w in
      subst P (sym (append-nil before)) (subst Q (sym writes) (record { writes = h.writes; lasts = h.lasts }));
}

-- ---- from the first line on

pub all_seen : (n : ℕ) (a b : Transactions) (lines : List Line) (ts : List Placed) → IsStart n a → Takes a b lines ts → HasSeen (writes_from n lines) b.writes
all_seen n a b lines ts s t = let P : ℕ → Type 0 = λ m. HasSeen (writes_from m lines) b.writes in subst P s.line (t.seen [] s.seen)

pub all_taken : (n : ℕ) (a b : Transactions) (lines : List Line) (ts : List Placed) → IsStart n a → Takes a b lines ts → HoldsAll b ts
all_taken n a b lines ts s t = record {
  keys = t.keys ∙ ap (λ ks. first_seen ks (keys_among ts)) s.keys;
  nodes = t.nodes [] ∙ ap (λ ns. map node_view ns ++ nodes_among b.numbers.texts.items ts) s.nodes;
  writes = let P : ℕ → Type 0 = λ m. HasWrites (numbered_from m b.numbers.texts.items ts) b.writes in subst P (ap length s.nodes) (t.writes [] [] s.writes);
}

-- ---- the loops

count_among : (keys : List (List ℕ)) (ts : List Placed) → length (nodes_among keys ts) ≡ count_by (λ t. is_committed t.2) ts
count_among keys [] = refl
count_among keys (t ∷ ts) = go (is_committed t.2) (count_among keys ts) ∙ sym (sum_by-cons (λ u. cond (is_committed u.2) 1 0) t ts)
  where
    node : NumberedNode
    node = record { session = t.0; place = t.1; events = events_of keys t.2.ops; begun = t.2.begun; ended = t.2.ended }

    go : (c : Bool) → length (nodes_among keys ts) ≡ count_by (λ t. is_committed t.2) ts → length (cond c (node ∷ nodes_among keys ts) (nodes_among keys ts)) ≡ cond c 1 0 + count_by (λ t. is_committed t.2) ts
    go true e = omega (arith, e)
    go false e = omega (arith, e)

pub count_placed : (session n : ℕ) (ts : List Transaction) → count_by (λ t. is_committed t.2) (placed_from session n ts) ≡ count_by is_committed ts
count_placed session n [] = refl
count_placed session n (t ∷ ts) = sum_by-cons (λ u. cond (is_committed u.2) 1 0) (session, n, t) (placed_from session (n + 1) ts) ∙ ap (λ k. cond (is_committed t) 1 0 + k) (count_placed session (n + 1) ts) ∙ sym (sum_by-cons (λ u. cond (is_committed u) 1 0) t ts)

pub nodes_counted : (a b : Transactions) (lines : List Line) (ts : List Placed) → Takes a b lines ts → length b.nodes.items ≡ length a.nodes.items + count_by (λ t. is_committed t.2) ts
nodes_counted a b lines ts h =
    let e = ap length (h.nodes []) in
    let f = length-append (map node_view a.nodes.items) (nodes_among (first_seen b.numbers.texts.items []) ts) in
    let l = length-map a.nodes.items node_view in
    let m = length-map b.nodes.items node_view in
    let n = count_among (first_seen b.numbers.texts.items []) ts in
    omega (arith, e, f, l, m, n)

placed_from-append : (session n : ℕ) (ts us : List Transaction) → placed_from session n (ts ++ us) ≡ placed_from session n ts ++ placed_from session (n + length ts) us
placed_from-append session n [] us = ap (λ m. placed_from session m us) (omega arith)
placed_from-append session n (t ∷ ts) us = ap (λ ps. (session, n, t) ∷ ps) (placed_from-append session (n + 1) ts us ∙ ap (λ m. placed_from session (n + 1) ts ++ placed_from session m us) (omega arith))

-- one more of a session's transactions
pub txns_more : (a b c : Transactions) (txns : List Txn) (i : ℕ) (x : Txn) (is_taken : Bool) (session place : ℕ) → i < length txns → x ≡ get_or txns i x → place ≡ i + 1
    → Takes a b (flat_map txn_lines (map view_txn (take i txns))) (placed_from session 1 (map (settle is_taken) (map view_txn (take i txns))))
    → Takes b c (txn_lines (view_txn x)) ((session, place, settle is_taken (view_txn x)) ∷ [])
    → Takes a c (flat_map txn_lines (map view_txn (take (i + 1) txns))) (placed_from session 1 (map (settle is_taken) (map view_txn (take (i + 1) txns))))
txns_more a b c txns i x is_taken session place h at is_place so_far one =
    let some = map view_txn (take i txns) in
    let front = map (settle is_taken) some in
    let last : Placed = (session, place, settle is_taken (view_txn x)) in
    let more = step view_txn txns txns i x refl h at in
    let count = length-map some (settle is_taken) ∙ length-map (take i txns) view_txn ∙ length-take i txns in
    let lines : flat_map txn_lines some ++ txn_lines (view_txn x) ≡ flat_map txn_lines (map view_txn (take (i + 1) txns)) = sym (step_in txn_lines view_txn txns txns i x refl h at) in
    let placed : placed_from session 1 front ++ last ∷ [] ≡ placed_from session 1 (map (settle is_taken) (map view_txn (take (i + 1) txns))) =
    ap (λ n. placed_from session 1 front ++ (session, n, settle is_taken (view_txn x)) ∷ []) (omega (arith, is_place, count)) ∙ sym (placed_from-append session 1 front (settle is_taken (view_txn x) ∷ []))
    ∙ ap (placed_from session 1) (sym (ap (map (settle is_taken)) more ∙ map-append (settle is_taken) some (view_txn x ∷ []))) in
    let all = takes_more a b c (flat_map txn_lines some) (txn_lines (view_txn x)) (placed_from session 1 front) (last ∷ []) so_far one in
    let Q : List Line → Type 0 = λ ls. Takes a c ls (placed_from session 1 front ++ last ∷ []) in
    let R : List Placed → Type 0 = λ ps. Takes a c (flat_map txn_lines (map view_txn (take (i + 1) txns))) ps in
    subst R placed (subst Q lines all)

-- what is left of a session's transactions
pub txns_left : (txns : List Txn) (i : ℕ) (x : Txn) (is_taken : Bool) → i < length txns → x ≡ get_or txns i x
    → (length (flat_map txn_lines (map view_txn (drop i txns))) ≡ length (txn_lines (view_txn x)) + length (flat_map txn_lines (map view_txn (drop (i + 1) txns))))
    × (count_by is_committed (map (settle is_taken) (map view_txn (drop i txns))) ≡ count_by is_committed (settle is_taken (view_txn x) ∷ []) + count_by is_committed (map (settle is_taken) (map view_txn (drop (i + 1) txns))))
txns_left txns i x is_taken h at =
    let left : map view_txn (drop i txns) ≡ view_txn x ∷ map view_txn (drop (i + 1) txns) = ap (map view_txn) (drop_more txns i x h ∙ ap (λ y. y ∷ drop (i + 1) txns) (sym at)) in
    let rest = map (settle is_taken) (map view_txn (drop (i + 1) txns)) in (
      ap (λ ts. length (flat_map txn_lines ts)) left ∙ length-append (txn_lines (view_txn x)) (flat_map txn_lines (map view_txn (drop (i + 1) txns))),
      ap (λ ts. count_by is_committed (map (settle is_taken) ts)) left ∙ sum_by-cons (λ u. cond (is_committed u) 1 0) (settle is_taken (view_txn x)) rest
          ∙ ap (λ k. k + count_by is_committed rest) (omega arith),
    )

-- ---- the sessions

settled-append : (chosen : ℕ → Bool) (a b : List ClientSession) → settled chosen (a ++ b) ≡ settled chosen a ++ settled chosen b
unfolding settled
settled-append chosen a b = map-append _ a b

-- one session more
pub sessions_more : (a b c : Transactions) (sessions : List Session) (i : ℕ) (x : Session) (chosen : ℕ → Bool) → i < length sessions → x ≡ get_or sessions i x
    → Takes a b (log_lines (map view (take i sessions))) (placed_in (settled chosen (map view (take i sessions))))
    → Takes b c (session_lines (view x)) (placed_from x.number 1 (map (settle (chosen x.number)) (view x).txns))
    → Takes a c (log_lines (map view (take (i + 1) sessions))) (placed_in (settled chosen (map view (take (i + 1) sessions))))
unfolding settled
sessions_more a b c sessions i x chosen h at so_far one =
    let some = map view (take i sessions) in
    let own = placed_from x.number 1 (map (settle (chosen x.number)) (view x).txns) in
    let lines : log_lines some ++ session_lines (view x) ≡ log_lines (map view (take (i + 1) sessions)) = sym (step_in session_lines view sessions sessions i x refl h at) in
    let placed : placed_in (settled chosen some) ++ own ≡ placed_in (settled chosen (map view (take (i + 1) sessions))) =
    ap (λ ls. placed_in (settled chosen some) ++ ls) (sym (append-nil own)) ∙ sym (flat_map-append (λ s. placed_from s.number 1 s.txns) (settled chosen some) (settled chosen (view x ∷ [])))
    ∙ ap placed_in (sym (ap (settled chosen) (step view sessions sessions i x refl h at) ∙ settled-append chosen some (view x ∷ []))) in
    let Q : List Line → Type 0 = λ ls. Takes a c ls (placed_in (settled chosen some) ++ own) in
    let R : List Placed → Type 0 = λ ps. Takes a c (log_lines (map view (take (i + 1) sessions))) ps in
    subst R placed (subst Q lines (takes_more a b c (log_lines some) (session_lines (view x)) (placed_in (settled chosen some)) own so_far one))

-- what is left of the sessions
pub sessions_left : (sessions : List Session) (i : ℕ) (x : Session) (chosen : ℕ → Bool) → i < length sessions → x ≡ get_or sessions i x
    → (length (log_lines (map view (drop i sessions))) ≡ length (session_lines (view x)) + length (log_lines (map view (drop (i + 1) sessions))))
    × (count_by is_committed (txns_in (settled chosen (map view (drop i sessions)))) ≡ count_by is_committed (map (settle (chosen x.number)) (view x).txns) + count_by is_committed (txns_in (settled chosen (map view (drop (i + 1) sessions)))))
unfolding settled
sessions_left sessions i x chosen h at =
    let left : map view (drop i sessions) ≡ view x ∷ map view (drop (i + 1) sessions) = ap (map view) (drop_more sessions i x h ∙ ap (λ y. y ∷ drop (i + 1) sessions) (sym at)) in (
      ap (λ ss. length (log_lines ss)) left ∙ length-append (session_lines (view x)) (log_lines (map view (drop (i + 1) sessions))),
      ap (λ ss. count_by is_committed (txns_in (settled chosen ss))) left ∙ sum_by-append (λ u. cond (is_committed u) 1 0) (map (settle (chosen x.number)) (view x).txns) (txns_in (settled chosen (map view (drop (i + 1) sessions)))),
    )

-- none so far
pub sessions_none : (chosen : ℕ → Bool) (a : Transactions) → Takes a a (log_lines []) (placed_in (settled chosen []))
unfolding settled
sessions_none chosen a = takes_none a
