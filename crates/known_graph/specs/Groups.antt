-- Groups of nodes, and a search for those of which each reaches each other.
use Rattle.std.specs.Prelude.{◌≡◌, ℕ, zero, suc, ◌+◌, ◌*◌, ◌≤◌, Bool, true, false, length}
use Rattle.std.specs.List.{All, Contains}
use Rattle.reach_laws.specs.Reach.{Graph, Reaches}
use Rattle.known_graph.specs.declared.groups.Group.{Group}
use Rattle.known_graph.specs.declared.groups.Search.{Search}
use Rattle.known_graph.specs.Bits.{bit_of}
use Rattle.known_graph.specs.Graphs.{IsKnownGraph}

-- the edges of the group's nodes lead to its ends, and these are nodes of the graph
pub record IsGroup (g : Graph) (group : Group) : Type 0 where
  pub edges : (v w : ℕ) → bit_of group.nodes v ≡ true → Contains g.edges (v, w)
      → bit_of group.ends w ≡ true
  pub ends : (w : ℕ) → bit_of group.ends w ≡ true → w ≤ g.nodes

-- From closed nodes edges lead to closed nodes alone, and those on a cycle are in `round`.
pub record IsSearch (g : Graph) (s : Search) : Type 0 where
  pub graph : IsKnownGraph g
  pub groups : All (IsGroup g) s.path.items
  pub closed : (v w : ℕ) → bit_of s.closed v ≡ true → Contains g.edges (v, w)
      → bit_of s.closed w ≡ true
  pub round : (v : ℕ) → bit_of s.closed v ≡ true → Reaches g.edges v v → bit_of s.round v ≡ true

-- how many numbers below n are not in a set
unfoldable pub left_one : Bool → ℕ
left_one true = 0
left_one false = 1

unfoldable pub left_of : (ℕ → Bool) → ℕ → ℕ
left_of p zero = 0
left_of p (suc n) = left_one (p n) + left_of p n

-- at most so many steps are left: each node is entered once, and each group joined or closed once
abbrev pub work_left : Search → ℕ
work_left s = 2 * left_of (bit_of s.seen) 1024 + length s.path.items
