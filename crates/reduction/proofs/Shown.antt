-- What each answer of the steps rests on.
use Rattle.std.proofs.Common.{◌≡◌, ◌↔◌, ℕ, ◌≤◌, List, [], ◌∷◌, ◌++◌, length, None, Result, Ok, Err, IfOk, IfErr, IsOk, refl, subst, sym, inl, inr}
use Rattle.std.proofs.lemmas.List.Elements.{All-nil, All-cons}
use Rattle.std.specs.List.{All, Contains}
use Rattle.session_log.specs.Text.{ClientSession}
use Rattle.serializability.specs.Reads.{IsClean}
use Rattle.serializability.specs.Log.{Log}
use Rattle.serializability.specs.Polygraph.{Edge, Polygraph, Fits, bipath_polygraph, arcs}
use Rattle.serializability.proofs.Serial.{serial_fits, fitting_serial}
use Rattle.serializability.specs.Anomalies.{anomaly_of}
use Rattle.reach_laws.specs.Reach.{Graph, Walk, IsCyclic, IsCycle}
use Rattle.reach_laws.proofs.Walks.{no_cycle_kept}
use Rattle.chain_laws.specs.Chains.{chain_polygraph, chain_choices}
use Rattle.log_definitions.specs.Numbers.{log_of}
use Rattle.log_definitions.proofs.Renaming.{serial_numbered, serial_by_keys}
use Rattle.known_graph.specs.Graphs.{IsKnownGraph, arc_graph}
use Rattle.polygraph.specs.Limits.{IsPolyFault}
use Rattle.polygraph.specs.declared.fault.PolyFault.{PolyFault}
use Rattle.polygraph.specs.declared.fault.PolyFault.TheVariants.{TooManyChoices, Memory}
use Rattle.prune_ledger.specs.declared.ledger.Ledger.{Ledger}
use Rattle.prune_ledger.specs.Pruned.{Remainder, IsDeadBy, IsRemainder}
use Rattle.prune_ledger.proofs.Grown.{walk_in}
use Rattle.reduction.specs.Chained.{IsChained, HasItsOrders, IsCoalesced, IsUnpruned}
use Rattle.reduction.specs.Outcome.{IsCyclicHistory, IsDeadHistory, IsOpenHistory, IsReduceFault}

-- a cycle listed is a cycle
pub cyclic : (edges : List Edge) (line : List ℕ) → IsCycle edges line → IsCyclic edges
cyclic edges line c = (c.0, (c.1.inner, c.1.steps))

-- a result whose refusal is a cycle, where there is none
pub none_closed : {A B : Type 0} (edges : List Edge) (line_of : B → List ℕ) (found : Result A B) → IfErr found (λ b. IsCycle edges (line_of b)) → (IsCyclic edges → ⊥) → IsOk found
none_closed edges line_of (Ok a) cycle acyclic = refl
none_closed edges line_of (Err b) cycle acyclic = absurd (acyclic (cyclic edges (line_of b) cycle))

pub cycle_among : (edges more : List Edge) → ((e : Edge) → Contains edges e → Contains more e) → (line : List ℕ) → IsCycle edges line → IsCycle more line
cycle_among edges more sub line c = (c.0, record { inner = c.1.inner; shape = c.1.shape; steps = walk_in edges more sub c.1.inner c.0 c.0 c.1.steps })

-- ---- the orders that fit
pub has_its_orders : (ss : List ClientSession) → IsClean (log_of ss) → (p : Polygraph) → ((order : List ℕ) → (Fits (bipath_polygraph (log_of ss)) order ↔ Fits p order)) → HasItsOrders ss p
has_its_orders ss clean p same = record {
  each = λ order. (
    λ s. (same order).0 (serial_fits (log_of ss) clean order (serial_numbered ss order s)),
    λ f. serial_by_keys ss order (fitting_serial (log_of ss) clean order ((same order).1 f)),
  );
}

pub ok_its_orders : (ss : List ClientSession) → IsClean (log_of ss) → (r : Result Polygraph PolyFault) → IfOk r (λ p. (order : List ℕ) → (Fits (bipath_polygraph (log_of ss)) order ↔ Fits p order)) → IfOk r (HasItsOrders ss)
ok_its_orders ss clean (Ok p) same = has_its_orders ss clean p same
ok_its_orders ss clean (Err e) h = tt

-- ---- a cycle
-- the nodes of a walk are nodes that edges join
walk_within : (n : ℕ) (edges : List Edge) → ((e : Edge) → Contains edges e → (e.0 ≤ n) × (e.1 ≤ n)) → (ws : List ℕ) (u v : ℕ) → Walk edges u ws v → (u ≤ n) × All (λ x. x ≤ n) (ws ++ v ∷ [])
walk_within n edges joined [] u v w = ((joined (u, v) w).0, All-cons (λ x. x ≤ n) v [] (joined (u, v) w).1 (All-nil (λ x. x ≤ n)))
walk_within n edges joined (x ∷ ws) u v w =
    let rest = walk_within n edges joined ws x v w.1 in
    ((joined (u, x) w.0).0, All-cons (λ y. y ≤ n) x (ws ++ v ∷ []) rest.0 rest.1)

cycle_within : (g : Graph) → IsKnownGraph g → (line : List ℕ) → IsCycle g.edges line → All (λ v. v ≤ g.nodes) line
cycle_within g k line c =
    let inside = walk_within g.nodes g.edges k.joined c.1.inner c.0 c.0 c.1.steps in
    subst (All (λ v. v ≤ g.nodes)) (sym c.1.shape) (All-cons (λ v. v ≤ g.nodes) c.0 (c.1.inner ++ c.0 ∷ []) inside.0 inside.1)

pub cyclic_by_arcs : (ss : List ClientSession) → IsClean (log_of ss) → (g : Graph) → g ≡ arc_graph (log_of ss) → IsKnownGraph g → (line : List ℕ) → IsCycle g.edges line → IsCyclicHistory ss line
cyclic_by_arcs ss clean g e k line c =
    let known = subst IsKnownGraph e k in
    let cycle = subst (λ (h : Graph). IsCycle h.edges line) e c in
    record {
      cycle = inl cycle;
      within = cycle_within (arc_graph (log_of ss)) known line cycle;
      orders = record {
        none = λ order s. no_cycle_kept order (arcs (log_of ss)) (serial_fits (log_of ss) clean order (serial_numbered ss order s)).known (cyclic (arcs (log_of ss)) line cycle);
      };
    }

pub cyclic_by_known : (ss : List ClientSession) (p : Polygraph) → IsChained (log_of ss) p → HasItsOrders ss p → IsCoalesced (log_of ss) → IsKnownGraph (record { nodes = p.nodes; edges = p.known }) → (line : List ℕ) → IsCycle p.known line → IsCyclicHistory ss line
cyclic_by_known ss p chained its coalesced k line c = record {
  cycle = inr (coalesced, cycle_among p.known (chain_polygraph (log_of ss)).known (λ e. (chained.known e).0) line c);
  within = subst (λ n. All (λ v. v ≤ n) line) chained.nodes (cycle_within (record { nodes = p.nodes; edges = p.known }) k line c);
  orders = record { none = λ order s. no_cycle_kept order p.known ((its.each order).0 s).known (cyclic p.known line c) };
}

-- ---- the polygraph of the chains
pub coalesced_log : (log : Log) → anomaly_of log ≡ None → (IsCyclic (arcs log) → ⊥) → length (chain_choices log) ≤ 100000 → IsCoalesced log
coalesced_log log none acyclic few = record { anomaly = none; acyclic = acyclic; few = few }

pub unpruned_polygraph : (log : Log) (p : Polygraph) → IsCoalesced log → IsChained log p → (IsCyclic p.known → ⊥) → IsUnpruned log p
unpruned_polygraph log p coalesced chained acyclic = record { coalesced = coalesced; chained = chained; acyclic = acyclic }

-- ---- what pruning gives
pub dead_history : (ss : List ClientSession) (p : Polygraph) (ledger : Ledger) → IsUnpruned (log_of ss) p → HasItsOrders ss p → IsDeadBy p ledger → IsDeadHistory ss ledger
dead_history ss p ledger unpruned its dead = record {
  poly = p;
  unpruned = unpruned;
  dead = dead;
  orders = record { none = λ order s. dead.orders order ((its.each order).0 s) };
}

pub open_history : (ss : List ClientSession) (p : Polygraph) (reduced : Remainder) → IsUnpruned (log_of ss) p → HasItsOrders ss p → IsRemainder p reduced → IsOpenHistory ss reduced
open_history ss p reduced unpruned its left = record {
  poly = p;
  unpruned = unpruned;
  left = left;
  orders = record {
    each = λ order. (
      λ s. (left.orders order).0 ((its.each order).0 s),
      λ f. (its.each order).1 ((left.orders order).1 f),
    );
  };
}

-- ---- refusals
pub reduce_fault : (ss : List ClientSession) → anomaly_of (log_of ss) ≡ None → (IsCyclic (arcs (log_of ss)) → ⊥) → (e : PolyFault) → IsPolyFault (chain_choices (log_of ss)) e → IsReduceFault ss e
reduce_fault ss none acyclic TooManyChoices many = (none, acyclic, many)
reduce_fault ss none acyclic Memory h = tt
