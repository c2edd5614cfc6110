-- The order that an assignment stands for.
use Rattle.std.specs.Prelude.{◌≡◌, ◌≢◌, ◌⊎◌, true, false, ℕ, ◌+◌, ◌<◌, ◌≤◌, ◌==◌, ◌&&◌, ◌||◌, not, Bool, List, length, slice_index, EachIndex}
use Rattle.std.specs.List.{count_by, range_with_len, All}
use Rattle.serializability.specs.Formula.{Cnf, Satisfies, literal_true, IsInRange, HasShortClauses}
use Rattle.serializability.specs.Pairs.{Known, free_pairs, edge_literal}
use Rattle.serializability.specs.declared.literal.TheConstants.{MAX_CLAUSES}
use Rattle.serializability.specs.declared.node.TheConstants.{MAX_NODES}

-- whether u stands before v, as it is known or as the assignment has it
abbrev pub is_before : Known → List (ℕ × ℕ) → List Bool → ℕ → ℕ → Bool
is_before known pairs values u v =
    not (u == v) && (known u v || (not (known v u) && literal_true values (edge_literal pairs u v)))

-- the pairs of nodes that have a variable
abbrev pub pairs_in : Cnf → List (ℕ × ℕ)
pairs_in f = free_pairs f.known (range_with_len 0 (f.nodes + 1))

-- the same, of a formula's own pairs
abbrev pub before : Cnf → List Bool → ℕ → ℕ → Bool
before f values = is_before f.known (pairs_in f) values

-- a strict total order of nodes 0 to n, in which 0 is the first
pub record IsOrder (n : ℕ) (r : ℕ → ℕ → Bool) : Type 0 where
  pub irreflexive : (u : ℕ) → r u u ≡ false
  pub total : (u v : ℕ) → u ≤ n → v ≤ n → u ≢ v → (r u v ≡ true) ⊎ (r v u ≡ true)
  pub apart : (u v : ℕ) → u ≤ n → v ≤ n → r u v ≡ true → r v u ≡ false
  pub transitive : (u v w : ℕ) → u ≤ n → v ≤ n → w ≤ n → r u v ≡ true → r v w ≡ true → r u w ≡ true
  pub zero_first : (v : ℕ) → 0 < v → v ≤ n → r 0 v ≡ true

-- the node at place p, from 1 to n, has p nodes before it, node 0 counted
pub record IsDecoded (n : ℕ) (r : ℕ → ℕ → Bool) (order : List ℕ) : Type 0 where
  pub places : length order ≡ n
  pub nodes : All (λ v. (0 < v) × (v ≤ n)) order
  pub each : EachIndex order (λ p. count_by (λ u. r u (slice_index order p))
      (range_with_len 0 (n + 1)) ≡ p + 1)

-- a formula of at most 1,000 nodes and 20,000,000 clauses, each satisfying assignment of which
-- stands for an order of the nodes
pub record IsFormula (f : Cnf) : Type 0 where
  pub few_nodes : f.nodes ≤ MAX_NODES
  pub few_clauses : length f.clauses ≤ MAX_CLAUSES
  pub in_range : IsInRange f
  pub short : HasShortClauses f
  pub orders : (values : List Bool) → Satisfies values f → IsOrder f.nodes (before f values)
