-- Arcs, bipaths and the orders that fit them.
use Rattle.std.specs.Prelude.{◌⊎◌, ℕ, ◌+◌, ◌==◌, ◌&&◌, ◌||◌, not, List, [], ◌∷◌, Option, None, Some, Bool, false, unwrap_or, is_some, map}
use Rattle.std.specs.List.{find, filter, flat_map, list_any, range_with_len, AllByRecursion}
use Rattle.std.specs.Option.{option_map, option_map_or}
use Rattle.serializability.specs.Log.{Log, precedes}
use Rattle.serializability.specs.Replay.{Before, ListsOnce}
use Rattle.serializability.specs.Reads.{last_write, external_read}

abbrev pub Edge : Type 0
Edge = ℕ × ℕ

-- two sides, of which an order keeps one
pub record Choice : Type 0 where
  pub one : List Edge
  pub two : List Edge

-- edges that each order keeps, and choices
pub record Polygraph : Type 0 where
  pub nodes : ℕ
  pub known : List Edge
  pub choices : List Choice

-- the order keeps each of these edges
abbrev pub Keeps : List ℕ → List Edge → Type 0
Keeps order edges = AllByRecursion (λ e. Before order e.0 e.1) edges

abbrev pub KeepsOne : List ℕ → Choice → Type 0
KeepsOne order c = Keeps order c.one ⊎ Keeps order c.two

-- the order lists the nodes once each, and keeps the known edges and one side of each choice
pub record Fits (p : Polygraph) (order : List ℕ) : Type 0 where
  pub once : ListsOnce p.nodes order
  pub known : Keeps order p.known
  pub choices : AllByRecursion (KeepsOne order) p.choices

-- nodes 0 to n; nodes 1 to n; the keys
abbrev pub all_nodes : Log → List ℕ
all_nodes log = range_with_len 0 (log.nodes + 1)

abbrev pub committed : Log → List ℕ
committed log = range_with_len 1 log.nodes

abbrev pub all_keys : Log → List ℕ
all_keys log = range_with_len 0 log.keys

-- whether node v's final write of the key has this identity
abbrev pub wrote : Log → ℕ → ℕ → ℕ → Bool
wrote log x w v = option_map_or (λ y. y == w) (last_write x (log.ops v)) false

-- the node that wrote the key with this identity, and 0 where none did
abbrev pub writer_of : Log → ℕ → ℕ → ℕ
writer_of log x w = unwrap_or (find (wrote log x w) (committed log)) 0

-- the node from which r reads the key externally
abbrev pub source : Log → ℕ → ℕ → Option ℕ
source log r x = option_map (writer_of log x) (external_read x (log.ops r))

abbrev pub reads_from : Log → ℕ → ℕ → Bool
reads_from log r w = list_any (λ x. option_map_or (λ u. u == w) (source log r x) false)
    (all_keys log)

-- an arc: from node 0, to the next of the session, from a writer to its reader, or to a node that
-- began behind the end of another
abbrev pub is_arc : Log → Edge → Bool
is_arc log e =
    not (e.1 == 0)
    && ((e.0 == 0) || (((e.0 + 1 == e.1) && (log.session e.0 == log.session e.1)) ||
    (reads_from log e.1 e.0 || precedes log e.0 e.1)))

-- by (from, to)
abbrev pub arcs : Log → List Edge
arcs log = filter (is_arc log) (flat_map (λ u. map (λ v. (u, v)) (all_nodes log)) (all_nodes log))

-- another writer k of a key that r reads from w stands before w or behind r
abbrev pub is_rival : Log → ℕ → ℕ → ℕ → ℕ → Bool
is_rival log x w r k = is_some (last_write x (log.ops k)) && (not (k == w) && not (k == r))

-- the rival before the writer, or the reader before the rival
abbrev pub rival_choice : ℕ → ℕ → ℕ → Choice
rival_choice w r k = record { one = (k, w) ∷ []; two = (r, k) ∷ [] }

abbrev pub bipaths_at : Log → ℕ → ℕ → Option ℕ → List Choice
bipaths_at log r x None = []
bipaths_at log r x (Some w) = map (rival_choice w r) (filter (is_rival log x w r) (committed log))

-- by reader, key and other writer
abbrev pub bipaths : Log → List Choice
bipaths log = flat_map (λ r. flat_map (λ x. bipaths_at log r x (source log r x)) (all_keys log))
    (committed log)

abbrev pub bipath_polygraph : Log → Polygraph
bipath_polygraph log = record { nodes = log.nodes; known = arcs log; choices = bipaths log }
