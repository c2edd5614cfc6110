-- The edges that a ledger keeps, as bits.
use Rattle.std.specs.Prelude.{◌≡◌, ℕ, ◌+◌, ◌*◌, ◌≤◌, List, [], ◌∷◌, ◌++◌}
use Rattle.serializability.specs.Polygraph.{Edge, Polygraph}
use Rattle.pruning_laws.specs.Forced.{other}
use Rattle.known_graph.specs.Bits.{bit_of}
use Rattle.known_graph.specs.Tests.{has_edge}
use Rattle.prune_ledger.specs.Ledger.{side_of}
use Rattle.ledger_checks.specs.declared.kept.KeptEdges.{KeptEdges}
use Rattle.prune_ledger.specs.declared.ledger.LedgerEntry.{LedgerEntry}
use Rattle.serializability.specs.declared.node.TheConstants.{MAX_NODES}

-- the number of the bit of the edge from u to v: a row of 1,024 bits for each node
unfoldable pub edge_place : ℕ → ℕ → ℕ
edge_place u v = u * 1024 + v

-- of the edges between nodes 0 to 1,000, those in the list have their bit set, and no others
pub record HasEdges (kept : KeptEdges) (edges : List Edge) : Type 0 where
  pub same : (u v : ℕ) → u ≤ MAX_NODES → v ≤ MAX_NODES
      → bit_of kept.words (edge_place u v) ≡ has_edge edges (u, v)

-- the edges of the sides that these entries keep
unfoldable pub edges_kept : Polygraph → List LedgerEntry → List Edge
edges_kept p [] = []
edges_kept p (x ∷ xs) = side_of p.choices x.post.choice (other x.post.side) ++ edges_kept p xs
