-- There are no more nodes than transactions of which the log does not say that they were aborted.
use Rattle.log_definitions.proofs.Prelude.{◌≡◌, ℕ, ◌≤◌, Bool, true, false, not, List, [], ◌∷◌, length, map, refl, arith, length-append, count_by, filter, cond_both, filter-append, length-filter, ClientSession, Transaction, Outcome, Commit}
use Rattle.log_definitions.proofs.Prelude.{Abort, Unknown, is_committed, txns_in, settled_as, settle, settled, taken, resolved, is_commit, is_aborted, log_of, IsWellFormedList}
use Rattle.serializability.specs.declared.node.TheConstants.{MAX_NODES}
use Rattle.log_definitions.proofs.Nodes.{committed_count}
use Rattle.log_definitions.proofs.Scanning.{rules_where_no_fault}

abbrev pub may_be_node : Transaction → Bool
may_be_node t = not (is_aborted t)

may_be : (b : Bool) (t : Transaction) → is_committed (settle b t) ≡ true → may_be_node t ≡ true
may_be b t e = go t.outcome e
  where
    go : (o : Outcome) → is_commit (settled_as b o) ≡ true → may_be_node (record { ops = t.ops; outcome = o; begun = t.begun; ended = t.ended }) ≡ true
    go Commit e = refl
    go Abort e = e
    go Unknown e = refl

few_of_txns : (b : Bool) (ts : List Transaction) → length (filter is_committed (map (settle b) ts)) ≤ length (filter may_be_node ts)
few_of_txns b [] = omega arith
few_of_txns b (t ∷ ts) = go (is_committed (settle b t)) refl (few_of_txns b ts)
  where
    go : (p : Bool) → is_committed (settle b t) ≡ p → length (filter is_committed (map (settle b) ts)) ≤ length (filter may_be_node ts) → length (filter is_committed (map (settle b) (t ∷ ts))) ≤ length (filter may_be_node (t ∷ ts))
    go true e le = rw (e, may_be b t e) (omega arith)
    go false e le = rw e (cond_both (may_be_node t) (t ∷ filter may_be_node ts) (filter may_be_node ts) (λ l. length (filter is_committed (map (settle b) ts)) ≤ length l) (λ _. omega arith) (λ _. le))

few_settled : (chosen : ℕ → Bool) (ss : List ClientSession) → length (filter is_committed (txns_in (settled chosen ss))) ≤ length (filter may_be_node (txns_in ss))
unfolding settled
few_settled chosen [] = omega arith
few_settled chosen (s ∷ ss) =
    let ts = map (settle (chosen s.number)) s.txns in
    rw (filter-append is_committed ts (txns_in (settled chosen ss)), filter-append may_be_node s.txns (txns_in ss))
    (omega (arith, length-append (filter is_committed ts) (filter is_committed (txns_in (settled chosen ss))), length-append (filter may_be_node s.txns) (filter may_be_node (txns_in ss)), few_of_txns (chosen s.number) s.txns, few_settled chosen ss))

few_resolved : (ss : List ClientSession) → length (filter is_committed (txns_in (resolved ss))) ≤ count_by may_be_node (txns_in ss)
unfolding resolved
few_resolved ss = omega (arith, few_settled (taken ss) ss, length-filter may_be_node (txns_in ss))

pub few_nodes : (ss : List ClientSession) → IsWellFormedList ss → (log_of ss).nodes ≤ MAX_NODES
unfolding log_of
few_nodes ss h = omega (arith, committed_count ss, few_resolved ss, (rules_where_no_fault 1 ss h.sessions).committed)
