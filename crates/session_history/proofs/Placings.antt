-- The transactions of all sessions, their nodes and their keys.
use Rattle.session_history.proofs.Prelude.{◌≡◌, ℕ, zero, suc, ◌+◌, ◌<◌, ◌≤◌, Bool, true, false, not, ◌||◌, ◌&&◌, cond, List, [], ◌∷◌, ◌++◌, length, map, count_by, slice_get, refl, sym, ap, subst, ◌∙◌, arith, nat_eq, flat_map, filter}
use Rattle.session_history.proofs.Prelude.{list_any, enumerate_from, AllByRecursion, option_map_or, bytes_eq, eq-eqb, ne_eqb, map-append, sum_by-cons, ClientSession, Transaction, key_of, Op, Event, is_committed, txns_in, settled, taken}
use Rattle.session_history.proofs.Prelude.{resolved, first_seen, keys_in, Committed, committed_of, committed_in, events_of, ops_settled, Placed, placed_from, placed_in, NumberedNode, nodes_among, numbered_from, keys_among, event_key}
use Rattle.session_history.proofs.Prelude.{numbered_node}
use Rattle.session_log.specs.declared.session.Op.TheVariants as op
use Rattle.session_history.proofs.Seen.{number_below, seen_here, seen_stays}
use Rattle.session_history.proofs.Taking.{nodes_among-append}

-- ---- nodes

nodes_of_session : (keys : List (List ℕ)) (number n : ℕ) (ts : List Transaction) → nodes_among keys (placed_from number n ts)
    ≡ map (numbered_node keys) (map (λ t. record { session = number; place = t.0; ops = t.1.ops; begun = t.1.begun; ended = t.1.ended }) (filter (λ t. is_committed t.1) (enumerate_from n ts)))
nodes_of_session keys number n [] = refl
nodes_of_session keys number n (t ∷ ts) = go (is_committed t) (nodes_of_session keys number (n + 1) ts)
  where
    rest : List (ℕ × Transaction)
    rest = filter (λ u. is_committed u.1) (enumerate_from (n + 1) ts)

    of : ℕ × Transaction → Committed
    of u = record { session = number; place = u.0; ops = u.1.ops; begun = u.1.begun; ended = u.1.ended }

    go : (b : Bool) → nodes_among keys (placed_from number (n + 1) ts) ≡ map (numbered_node keys) (map of rest)
        → cond b (record { session = number; place = n; events = events_of keys t.ops; begun = t.begun; ended = t.ended } ∷ nodes_among keys (placed_from number (n + 1) ts)) (nodes_among keys (placed_from number (n + 1) ts))
        ≡ map (numbered_node keys) (map of (cond b ((n, t) ∷ rest) rest))
    go true e = ap (λ l. record { session = number; place = n; events = events_of keys t.ops; begun = t.begun; ended = t.ended } ∷ l) e
    go false e = e

nodes_in_flat : (keys : List (List ℕ)) (ss : List ClientSession) → nodes_among keys (placed_in ss) ≡ map (numbered_node keys) (flat_map committed_of ss)
nodes_in_flat keys [] = refl
nodes_in_flat keys (s ∷ ss) =
    nodes_among-append keys (placed_from s.number 1 s.txns) (placed_in ss)
    ∙ ap (λ l. l ++ nodes_among keys (placed_in ss)) (nodes_of_session keys s.number 1 s.txns)
    ∙ ap (λ l. map (numbered_node keys) (committed_of s) ++ l) (nodes_in_flat keys ss)
    ∙ sym (map-append (numbered_node keys) (committed_of s) (flat_map committed_of ss))

pub nodes_in : (keys : List (List ℕ)) (ss : List ClientSession) → nodes_among keys (placed_in (resolved ss)) ≡ map (numbered_node keys) (committed_in ss)
unfolding committed_in
nodes_in keys ss = nodes_in_flat keys (resolved ss)

-- ---- transactions and keys

txns_of_session : (number n : ℕ) (ts : List Transaction) → map (λ (p : Placed). p.2) (placed_from number n ts) ≡ ts
txns_of_session number n [] = refl
txns_of_session number n (t ∷ ts) = ap (λ l. t ∷ l) (txns_of_session number (n + 1) ts)

pub txns_placed : (ss : List ClientSession) → map (λ (p : Placed). p.2) (placed_in ss) ≡ txns_in ss
txns_placed [] = refl
txns_placed (s ∷ ss) =
    map-append (λ (p : Placed). p.2) (placed_from s.number 1 s.txns) (placed_in ss)
    ∙ ap (λ l. l ++ map (λ (p : Placed). p.2) (placed_in ss)) (txns_of_session s.number 1 s.txns)
    ∙ ap (λ l. s.txns ++ l) (txns_placed ss)

ops_of_placed : (ps : List Placed) → flat_map (λ p. p.2.ops) ps ≡ flat_map (λ t. t.ops) (map (λ (p : Placed). p.2) ps)
ops_of_placed [] = refl
ops_of_placed (p ∷ ps) = ap (λ l. p.2.ops ++ l) (ops_of_placed ps)

pub keys_settled : (chosen : ℕ → Bool) (ss : List ClientSession) → first_seen [] (keys_among (placed_in (settled chosen ss))) ≡ keys_in ss
unfolding keys_in
keys_settled chosen ss =
    ap (λ os. first_seen [] (map key_of os)) (ops_of_placed (placed_in (settled chosen ss)) ∙ ap (flat_map (λ t. t.ops)) (txns_placed (settled chosen ss)) ∙ ops_settled chosen ss)

pub keys_placed : (ss : List ClientSession) → first_seen [] (keys_among (placed_in (resolved ss))) ≡ keys_in ss
unfolding resolved
keys_placed ss = keys_settled (taken ss) ss

pub committed_placed : (keys : List (List ℕ)) (ps : List Placed) → length (nodes_among keys ps) ≡ count_by is_committed (map (λ (p : Placed). p.2) ps)
committed_placed keys [] = refl
committed_placed keys (t ∷ ts) = go (is_committed t.2) (committed_placed keys ts) ∙ sym (sum_by-cons (λ u. cond (is_committed u) 1 0) t.2 (map (λ (p : Placed). p.2) ts))
  where
    node : NumberedNode
    node = record { session = t.0; place = t.1; events = events_of keys t.2.ops; begun = t.2.begun; ended = t.2.ended }

    go : (c : Bool) → length (nodes_among keys ts) ≡ count_by is_committed (map (λ (p : Placed). p.2) ts) → length (cond c (node ∷ nodes_among keys ts) (nodes_among keys ts)) ≡ cond c 1 0 + count_by is_committed (map (λ (p : Placed). p.2) ts)
    go true e = omega (arith, e)
    go false e = omega (arith, e)

-- ---- each transaction with its node

module _ (keys : List (List ℕ)) (test : List Event → Bool) where
  abbrev named : ℕ → ℕ × List Event → Bool
  named v p = nat_eq p.0 v && test p.1

  -- no transaction has an earlier node
  none_before : (n v : ℕ) (ts : List Placed) → 0 < v → v ≤ n → list_any (named v) (numbered_from n keys ts) ≡ false
  none_before n v [] low high = refl
  none_before n v (t ∷ ts) low high = go (is_committed t.2) (none_before (n + 1) v ts low (omega arith)) (none_before n v ts low high)
    where
      go : (b : Bool) → list_any (named v) (numbered_from (n + 1) keys ts) ≡ false → list_any (named v) (numbered_from n keys ts) ≡ false
          → list_any (named v) (cond b ((n + 1, events_of keys t.2.ops) ∷ numbered_from (n + 1) keys ts) ((0, events_of keys t.2.ops) ∷ numbered_from n keys ts)) ≡ false
      go true e f = ap (λ c. (c && test (events_of keys t.2.ops)) || list_any (named v) (numbered_from (n + 1) keys ts)) (ne_eqb (n + 1) v (λ same. absurd (omega arith))) ∙ e
      go false e f = ap (λ c. (c && test (events_of keys t.2.ops)) || list_any (named v) (numbered_from n keys ts)) (ne_eqb 0 v (λ same. absurd (omega arith))) ∙ f

  -- the node k places behind them
  pub one_there : (n v k : ℕ) (ts : List Placed) → v ≡ n + 1 + k → list_any (λ p. nat_eq p.0 v && test p.1) (numbered_from n keys ts) ≡ option_map_or (λ node. test node.events) (slice_get (nodes_among keys ts) k) false
  one_there n v k [] e = refl
  one_there n v k (t ∷ ts) e = go (is_committed t.2) k e (λ i f. one_there (n + 1) v i ts f) (λ f. one_there n v k ts f) (λ f. none_before (n + 1) v ts (omega (arith, e)) f)
    where
      node : NumberedNode
      node = record { session = t.0; place = t.1; events = events_of keys t.2.ops; begun = t.2.begun; ended = t.2.ended }

      or_none : (b : Bool) → (b || false) ≡ b
      or_none true = refl
      or_none false = refl

      go : (b : Bool) (j : ℕ) → v ≡ n + 1 + j → ((i : ℕ) → v ≡ n + 1 + 1 + i → list_any (named v) (numbered_from (n + 1) keys ts) ≡ option_map_or (λ m. test m.events) (slice_get (nodes_among keys ts) i) false)
          → (v ≡ n + 1 + j → list_any (named v) (numbered_from n keys ts) ≡ option_map_or (λ m. test m.events) (slice_get (nodes_among keys ts) j) false)
          → (v ≤ n + 1 → list_any (named v) (numbered_from (n + 1) keys ts) ≡ false)
          → list_any (named v) (cond b ((n + 1, events_of keys t.2.ops) ∷ numbered_from (n + 1) keys ts) ((0, events_of keys t.2.ops) ∷ numbered_from n keys ts))
          ≡ option_map_or (λ m. test m.events) (slice_get (cond b (node ∷ nodes_among keys ts) (nodes_among keys ts)) j) false
      go true zero f more same none =
          ap (λ c. (c && test (events_of keys t.2.ops)) || list_any (named v) (numbered_from (n + 1) keys ts)) (eq-eqb (n + 1) v (omega (arith, f)))
          ∙ ap (λ c. test (events_of keys t.2.ops) || c) (none (omega (arith, f))) ∙ or_none (test (events_of keys t.2.ops))
      go true (suc i) f more same none =
          ap (λ c. (c && test (events_of keys t.2.ops)) || list_any (named v) (numbered_from (n + 1) keys ts)) (ne_eqb (n + 1) v (λ eq. absurd (omega arith))) ∙ more i (omega (arith, f))
      go false j f more same none =
          ap (λ c. (c && test (events_of keys t.2.ops)) || list_any (named v) (numbered_from n keys ts)) (ne_eqb 0 v (λ eq. absurd (omega arith))) ∙ same f

  -- the transactions that count as aborted
  pub aborted_there : (n : ℕ) (ts : List Placed) → list_any (λ p. nat_eq p.0 0 && test p.1) (numbered_from n keys ts)
      ≡ list_any test (map (events_of keys) (map (λ t. t.ops) (filter (λ t. not (is_committed t)) (map (λ (p : Placed). p.2) ts))))
  aborted_there n [] = refl
  aborted_there n (t ∷ ts) = go (is_committed t.2) (aborted_there (n + 1) ts) (aborted_there n ts)
    where
      rest : List Transaction
      rest = filter (λ u. not (is_committed u)) (map (λ (p : Placed). p.2) ts)

      go : (b : Bool) → list_any (named 0) (numbered_from (n + 1) keys ts) ≡ list_any test (map (events_of keys) (map (λ u. u.ops) rest))
          → list_any (named 0) (numbered_from n keys ts) ≡ list_any test (map (events_of keys) (map (λ u. u.ops) rest))
          → list_any (named 0) (cond b ((n + 1, events_of keys t.2.ops) ∷ numbered_from (n + 1) keys ts) ((0, events_of keys t.2.ops) ∷ numbered_from n keys ts))
          ≡ list_any test (map (events_of keys) (map (λ u. u.ops) (cond (not b) (t.2 ∷ rest) rest)))
      go true e f = ap (λ c. (c && test (events_of keys t.2.ops)) || list_any (named 0) (numbered_from (n + 1) keys ts)) (ne_eqb (n + 1) 0 (λ same. absurd (omega arith))) ∙ e
      go false e f = ap (λ c. test (events_of keys t.2.ops) || c) f

-- ---- keys have numbers below their count

-- each of these keys is seen
pub seen_all : (xs ks : List (List ℕ)) → AllByRecursion (λ k. list_any (bytes_eq k) (first_seen xs ks) ≡ true) ks
seen_all xs [] = tt
seen_all xs (k ∷ ks) = (seen_stays ks (first_seen xs (k ∷ [])) k (seen_here xs k), seen_all (first_seen xs (k ∷ [])) ks)

events_below : (keys : List (List ℕ)) (ops : List Op) → AllByRecursion (λ k. list_any (bytes_eq k) keys ≡ true) (map key_of ops) → AllByRecursion (λ e. event_key e < length keys) (events_of keys ops)
events_below keys [] h = tt
events_below keys (op.Read k w ∷ ops) h = (number_below keys k h.0, events_below keys ops h.1)
events_below keys (op.Write k w ∷ ops) h = (number_below keys k h.0, events_below keys ops h.1)

all_front : {X : Type 0} (P : X → Type 0) (a b : List X) → AllByRecursion P (a ++ b) → AllByRecursion P a
all_front P [] b h = tt
all_front P (x ∷ a) b h = (h.0, all_front P a b h.1)

all_back : {X : Type 0} (P : X → Type 0) (a b : List X) → AllByRecursion P (a ++ b) → AllByRecursion P b
all_back P [] b h = h
all_back P (x ∷ a) b h = all_back P a b h.1

nodes_below : (keys : List (List ℕ)) (ts : List Placed) → AllByRecursion (λ k. list_any (bytes_eq k) keys ≡ true) (keys_among ts)
    → AllByRecursion (λ node. AllByRecursion (λ e. event_key e < length keys) node.events) (nodes_among keys ts)
nodes_below keys [] h = tt
nodes_below keys (t ∷ ts) h = go (is_committed t.2) (events_below keys t.2.ops (all_front (λ k. list_any (bytes_eq k) keys ≡ true) (map key_of t.2.ops) (keys_among ts) split)) (nodes_below keys ts (all_back (λ k. list_any (bytes_eq k) keys ≡ true) (map key_of t.2.ops) (keys_among ts) split))
  where
    split : AllByRecursion (λ k. list_any (bytes_eq k) keys ≡ true) (map key_of t.2.ops ++ keys_among ts)
    split = let P : List (List ℕ) → Type 0 = λ ks. AllByRecursion (λ k. list_any (bytes_eq k) keys ≡ true) ks in subst P (map-append key_of t.2.ops (flat_map (λ p. p.2.ops) ts)) h

    go : (b : Bool) → AllByRecursion (λ e. event_key e < length keys) (events_of keys t.2.ops) → AllByRecursion (λ node. AllByRecursion (λ e. event_key e < length keys) node.events) (nodes_among keys ts)
        → AllByRecursion (λ node. AllByRecursion (λ e. event_key e < length keys) node.events) (cond b (record { session = t.0; place = t.1; events = events_of keys t.2.ops; begun = t.2.begun; ended = t.2.ended } ∷ nodes_among keys ts) (nodes_among keys ts))
    go true f g = (f, g)
    go false f g = g

pub all_below : (keys : List (List ℕ)) (ts : List Placed) → keys ≡ first_seen [] (keys_among ts)
    → AllByRecursion (λ node. AllByRecursion (λ e. event_key e < length keys) node.events) (nodes_among keys ts)
all_below keys ts e =
    let P : List (List ℕ) → Type 0 = λ ks. AllByRecursion (λ k. list_any (bytes_eq k) ks ≡ true) (keys_among ts) in
    nodes_below keys ts (subst P (sym e) (seen_all [] (keys_among ts)))
