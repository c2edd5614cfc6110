-- What the code's chains, links and edges stand for.
use Rattle.std.specs.Prelude.{◌≡◌, ℕ, ◌+◌, ◌<◌, ◌==◌, not, List, [], length, map, slice_index_or, Option, None, Some}
use Rattle.std.specs.List.{filter}
use Rattle.serializability.specs.Log.{Log}
use Rattle.serializability.specs.Polygraph as graph
use Rattle.chain_laws.specs.Chains.{readers, next, tail, heads}
use Rattle.write_chains.specs.declared.chain.Chain.{Chain}
use Rattle.write_chains.specs.declared.groups.Group.{Group}
use Rattle.write_chains.specs.declared.links.Links.{Links}
use Rattle.write_chains.specs.Lists.{AreLists, IsTable}

-- a chain by its first and its last writer, and the nodes that read the key from the last
pub record ChainView : Type 0 where
  pub head : ℕ
  pub tail : ℕ
  pub readers : List ℕ

abbrev pub chain_view : Chain → ChainView
chain_view c = record { head = c.head; tail = c.tail; readers = c.readers.items }

-- the chain of the key that begins with this node
abbrev pub chain_from : Log → ℕ → ℕ → ChainView
chain_from log x h = record {
  head = h;
  tail = tail log x h;
  readers = readers log x
      (tail log x h);
}

-- by head, the chains of the key that do not begin with node 0
abbrev pub chains_in : Log → ℕ → List ChainView
chains_in log x = map (chain_from log x) (heads log x)

abbrev pub group_view : Group → ℕ × List ℕ
group_view g = (g.source, g.readers.items)

-- the links of nodes 0 to n
pub record AreLinks (log : Log) (x : ℕ) (links : Links) : Type 0 where
  pub next : IsTable log.nodes (next log x) links.next.items
  pub readers : AreLists (log.nodes + 1) (readers log x) links.readers.items

-- both tables have the same nodes, and lead to no others
pub record FitTogether (links : Links) : Type 0 where
  pub same : length links.readers.items ≡ length links.next.items
  pub stays : (v u : ℕ) → slice_index_or links.next.items v None ≡ Some u
      → u < length links.next.items

-- from each of these readers but v itself, an edge to v
abbrev pub edges_before : List ℕ → Option ℕ → List graph.Edge
edges_before readers None = []
edges_before readers (Some v) = map (λ r. (r, v)) (filter (λ r. not (r == v)) readers)
