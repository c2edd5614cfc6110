-- The chains of a key, and the polygraph of a history's chains.
use Rattle.std.specs.Prelude.{◌≡◌, ◌⊎◌, ◌<◌, ◌≤◌, ℕ, zero, suc, ◌==◌, ◌&&◌, not, List, [], ◌∷◌, ◌++◌, length, Option, None, Some, Bool, true, false, is_some, map}
use Rattle.std.specs.List.{find, filter, flat_map}
use Rattle.std.specs.Option.{option_map_or}
use Rattle.serializability.specs.Log.{Log}
use Rattle.serializability.specs.Reads.{last_write}
use Rattle.serializability.specs.Pairs.{pairs_of}
use Rattle.serializability.specs.Polygraph.{Edge, Choice, Polygraph, all_nodes, committed, all_keys, source, arcs}

-- whether node v writes the key
abbrev pub writes : Log → ℕ → ℕ → Bool
writes log x v = is_some (last_write x (log.ops v))

-- whether r reads the key from w
abbrev pub reads_key : Log → ℕ → ℕ → ℕ → Bool
reads_key log x w r = option_map_or (λ u. u == w) (source log r x) false

-- the nodes that read the key from w, ascending
abbrev pub readers : Log → ℕ → ℕ → List ℕ
readers log x w = filter (reads_key log x w) (committed log)

-- the writer behind w in its chain: the one that reads the key from w
abbrev pub next : Log → ℕ → ℕ → Option ℕ
next log x w = find (λ v. writes log x v && reads_key log x w v) (committed log)

-- the last writer of w's chain, for which it is enough to go as many steps as there are nodes
abbrev pub tail_from : Log → ℕ → ℕ → ℕ → ℕ
tail_from log x zero w = w
tail_from log x (suc steps) w = option_map_or (tail_from log x steps) (next log x w) w

abbrev pub tail : Log → ℕ → ℕ → ℕ
tail log x w = tail_from log x log.nodes w

-- the heads of the chains that do not begin with node 0: they write the key and read it from nobody
abbrev pub is_head : Log → ℕ → ℕ → Bool
is_head log x v = writes log x v && not (is_some (source log v x))

abbrev pub heads : Log → ℕ → List ℕ
heads log x = filter (is_head log x) (committed log)

-- ---- edges
abbrev pub inner_at : Log → ℕ → ℕ → Option ℕ → List Edge
inner_at log x w None = []
inner_at log x w (Some v) = map (λ r. (r, v)) (filter (λ r. not (r == v)) (readers log x w))

-- each reader of a chain's writer stands before the writer behind it
abbrev pub inner_edges : Log → List Edge
inner_edges log = flat_map (λ x. flat_map (λ w. inner_at log x w (next log x w)) (all_nodes log))
    (all_keys log)

-- from each of these to b, and where there is none, from t to b
abbrev pub edges_to : ℕ → ℕ → List ℕ → List Edge
edges_to t b [] = (t, b) ∷ []
edges_to t b (r ∷ rs) = (r, b) ∷ map (λ q. (q, b)) rs

-- the chain of head a stands before the chain of head b
abbrev pub chain_first : Log → ℕ → ℕ → ℕ → List Edge
chain_first log x a b = edges_to (tail log x a) b (readers log x (tail log x a))

-- node 0's chain stands before each other chain of its key
abbrev pub initial_first : Log → List Edge
initial_first log = flat_map (λ x. flat_map (chain_first log x 0) (heads log x)) (all_keys log)

abbrev pub chain_choice : Log → ℕ → (ℕ × ℕ) → Choice
chain_choice log x p = record { one = chain_first log x p.0 p.1; two = chain_first log x p.1 p.0 }

-- by key, the lesser head and the greater head
abbrev pub chain_choices : Log → List Choice
chain_choices log = flat_map (λ x. map (chain_choice log x) (pairs_of (heads log x))) (all_keys log)

abbrev pub chain_polygraph : Log → Polygraph
chain_polygraph log = record {
  nodes = log.nodes;
  known = arcs log ++ inner_edges log ++ initial_first log;
  choices = chain_choices log;
}

-- ---- what the heads and tails stand for
-- node 0, or one that writes the key
abbrev pub IsWriter : Log → ℕ → ℕ → Type 0
IsWriter log x v = (v ≡ 0) ⊎ ((0 < v) × (v ≤ log.nodes) × (writes log x v ≡ true))

-- behind w each of these writes the key, and reads it from the one before
abbrev pub IsLinked : Log → ℕ → ℕ → List ℕ → Type 0
IsLinked log x w [] = Unit {0}
IsLinked log x w (v ∷ rest) = (0 < v) × (v ≤ log.nodes) × (writes log x v ≡ true)
    × (source log v x ≡ Some w) × IsLinked log x v rest

abbrev pub last : ℕ → List ℕ → ℕ
last w [] = w
last w (v ∷ rest) = last v rest

-- w and the rest are a list of writers in which each next one reads the key from the one before,
-- and none stands before or behind it
pub record IsChain (log : Log) (x w : ℕ) (rest : List ℕ) : Type 0 where
  pub writer : IsWriter log x w
  pub linked : IsLinked log x w rest
  pub begins : (w ≡ 0) ⊎ (source log w x ≡ None)
  pub ends : (v : ℕ) → 0 < v → v ≤ log.nodes → writes log x v ≡ true
      → source log v x ≡ Some (last w rest) → ⊥

-- ---- chains that close on themselves
-- at least two nodes, of which the first is the last again: each next one writes the key, and reads
-- it from the one before
pub record IsClosedChain (log : Log) (x : ℕ) (line : List ℕ) : Type 0 where
  pub start : ℕ
  pub rest : List ℕ
  pub shape : line ≡ start ∷ rest
  pub more : 0 < length rest
  pub linked : IsLinked log x start rest
  pub closes : last start rest ≡ start

-- no chain of the key closes on itself
pub record NoneCloses (log : Log) (x : ℕ) : Type 0 where
  pub none : (line : List ℕ) → IsClosedChain log x line → ⊥
