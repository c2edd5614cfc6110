-- How much sessions hold.
use Rattle.session_history.proofs.Prelude.{◌≡◌, ℕ, ◌+◌, ◌≤◌, Bool, true, false, not, cond, List, [], ◌∷◌, ◌++◌, length, length-append, map, count_by, refl, arith, flat_map, sum_by-cons, sum_by-append, ClientSession, Transaction, txn_lines}
use Rattle.session_history.proofs.Prelude.{session_lines, Outcome, Commit, Abort, Unknown, is_committed, is_unknown, txns_in, settle, settled, taken, resolved, log_lines, is_aborted}
use Rattle.session_history.proofs.Taking.{length-txn_lines}

one_if : Bool → ℕ
one_if b = cond b 1 0

-- one transaction more
more : (p : Transaction → Bool) (t : Transaction) (ts : List Transaction) → count_by p (t ∷ ts) ≡ one_if (p t) + count_by p ts
unfolding one_if
more p t ts = sum_by-cons (λ u. cond (p u) 1 0) t ts

-- what is not aborted is committed or unknown
pub others_counted : (ts : List Transaction) → count_by (λ t. not (is_aborted t)) ts ≡ count_by is_committed ts + count_by is_unknown ts
unfolding one_if
others_counted [] = refl
others_counted (t ∷ ts) = omega (arith, more (λ u. not (is_aborted u)) t ts, more is_committed t ts, more is_unknown t ts, others_counted ts, own t.outcome)
  where
    own : (o : Outcome) → let u : Transaction = record { ops = t.ops; outcome = o; begun = t.begun; ended = t.ended } in one_if (not (is_aborted u)) ≡ one_if (is_committed u) + one_if (is_unknown u)
    own Commit = refl
    own Abort = refl
    own Unknown = refl

-- ---- settled ones: the committed stay, and only unknown ones become committed

pub record Between (low n more : ℕ) : Type 0 where
  pub least : low ≤ n
  pub most : n ≤ low + more

settled_txn : (b : Bool) (t : Transaction) → Between (one_if (is_committed t)) (one_if (is_committed (settle b t))) (one_if (is_unknown t))
unfolding one_if
settled_txn b t = go b t.outcome
  where
    go : (b : Bool) (o : Outcome) → let u : Transaction = record { ops = t.ops; outcome = o; begun = t.begun; ended = t.ended } in Between (one_if (is_committed u)) (one_if (is_committed (settle b u))) (one_if (is_unknown u))
    go b Commit = record { least = omega arith; most = omega arith }
    go b Abort = record { least = omega arith; most = omega arith }
    go true Unknown = record { least = omega arith; most = omega arith }
    go false Unknown = record { least = omega arith; most = omega arith }

settled_txns : (b : Bool) (ts : List Transaction) → Between (count_by is_committed ts) (count_by is_committed (map (settle b) ts)) (count_by is_unknown ts)
settled_txns b [] = record { least = omega arith; most = omega arith }
settled_txns b (t ∷ ts) =
    let first = settled_txn b t in
    let later = settled_txns b ts in
    let low = more is_committed t ts in
    let own = more is_committed (settle b t) (map (settle b) ts) in
    let high = more is_unknown t ts in
    record {
      least = omega (arith, first.least, later.least, low, own);
      most = omega (arith, first.most, later.most, low, own, high);
    }

both : (p : Transaction → Bool) (ts us : List Transaction) → count_by p (ts ++ us) ≡ count_by p ts + count_by p us
both p ts us = sum_by-append (λ u. cond (p u) 1 0) ts us

pub settled_counted : (chosen : ℕ → Bool) (ss : List ClientSession) → Between (count_by is_committed (txns_in ss)) (count_by is_committed (txns_in (settled chosen ss))) (count_by is_unknown (txns_in ss))
unfolding settled
settled_counted chosen [] = record { least = omega arith; most = omega arith }
settled_counted chosen (s ∷ ss) =
    let own = map (settle (chosen s.number)) s.txns in
    let first = settled_txns (chosen s.number) s.txns in
    let later = settled_counted chosen ss in
    let low = both is_committed s.txns (txns_in ss) in
    let all = both is_committed own (txns_in (settled chosen ss)) in
    let high = both is_unknown s.txns (txns_in ss) in
    record {
      least = omega (arith, first.least, later.least, low, all);
      most = omega (arith, first.most, later.most, low, all, high);
    }

-- a committed transaction is a node
pub committed_nodes : (ss : List ClientSession) → count_by is_committed (txns_in ss) ≤ count_by is_committed (txns_in (resolved ss))
unfolding resolved
committed_nodes ss = (settled_counted (taken ss) ss).least

-- ---- there are no more transactions than lines

pub txns_in_lines : (ts : List Transaction) → length ts ≤ length (flat_map txn_lines ts)
txns_in_lines [] = omega arith
txns_in_lines (t ∷ ts) =
    let later = txns_in_lines ts in
    let len = length-append (txn_lines t) (flat_map txn_lines ts) in
    let own = length-txn_lines t in
    omega (arith, later, len, own)

pub txns_below_lines : (ss : List ClientSession) → length (txns_in ss) ≤ length (log_lines ss)
txns_below_lines [] = omega arith
txns_below_lines (s ∷ ss) =
    let later = txns_below_lines ss in
    let len = length-append s.txns (txns_in ss) in
    let lines = length-append (session_lines s) (log_lines ss) in
    let own = txns_in_lines s.txns in
    omega (arith, later, len, lines, own)
