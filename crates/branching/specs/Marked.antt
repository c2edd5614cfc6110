-- Marks of the choices of which a side is refuted.
use Rattle.std.specs.Prelude.{◌≡◌, ◌⊎◌, ℕ, ◌+◌, ◌/◌, ◌<◌, true, List, Option, length, Vec}
use Rattle.std.specs.List.{Contains}
use Rattle.std.specs.declared.alloc.Global.{Global}
use Rattle.serializability.specs.Polygraph.{Edge, Choice}
use Rattle.reach_laws.specs.Reach.{Reaches}
use Rattle.pruning_laws.specs.declared.side.Side.{Side}
use Rattle.pruning_laws.specs.Forced.{IsRefuted}
use Rattle.known_graph.specs.Bits.{bit_of, row_len}
use Rattle.prune_ledger.specs.Ledger.{side_of}
use Rattle.side_edges.specs.Listed.{list_of, HasSides}
use Rattle.side_edges.specs.declared.SideEdge.{SideEdge}
use Rattle.branching.specs.Opens.{is_open_at}

-- of nodes 0 to n, each has a list, and the edges of all sides are listed
pub record AreIncoming (n : ℕ) (choices : List Choice)
    (lists : List (Vec SideEdge Global)) : Type 0 where
  pub count : length lists ≡ n + 1
  pub sides : HasSides choices lists

-- no bit is cleared
pub record Keeps (old new : List ℕ) : Type 0 where
  pub kept : (k : ℕ) → bit_of old k ≡ true → bit_of new k ≡ true
  pub len : length new ≡ length old

-- a node is another one, or reaches it by these rows
abbrev pub IsOrReaches : List Edge → ℕ → ℕ → Type 0
IsOrReaches rows u w = (u ≡ w) ⊎ Contains rows (u, w)

-- the choices of these edges are marked, of which the sources are v or reached by v
pub record MarksBehind (rows : List Edge) (v : ℕ) (list : List SideEdge)
    (marks : List ℕ) : Type 0 where
  pub each : (x : SideEdge) → Contains list x → x.choice / 64 < length marks
      → IsOrReaches rows v x.source → bit_of marks x.choice ≡ true

-- where a node comes to reach v by an edge from u to v
pub record MarksTarget (rows : List Edge) (t u v : ℕ) (list : List SideEdge)
    (marks : List ℕ) : Type 0 where
  pub each : IsOrReaches rows t u → (Contains rows (t, v) → ⊥) → MarksBehind rows v list marks

-- the choice of each edge is marked of which an edge more, from u to v, lets the target reach the
-- source
pub record MarksAll (edges : List Edge) (u v : ℕ) (lists : List (Vec SideEdge Global))
    (marks : List ℕ) : Type 0 where
  pub each : (t : ℕ) (x : SideEdge) → Contains (list_of lists t) x → x.choice / 64 < length marks
      → (t ≡ u) ⊎ Reaches edges t u → (Reaches edges t v → ⊥)
      → (v ≡ x.source) ⊎ Reaches edges v x.source → bit_of marks x.choice ≡ true

-- there is a bit for each choice, and it is set where the choice is open and these edges refute a
-- side of it
pub record AreMarked (choices : List Choice) (sides : List (Option Side)) (edges : List Edge)
    (marks : List ℕ) : Type 0 where
  pub len : length marks ≡ row_len (length choices)
  pub marked : (c : ℕ) (side : Side) → is_open_at sides c ≡ true
      → IsRefuted edges (side_of choices c side) → bit_of marks c ≡ true
