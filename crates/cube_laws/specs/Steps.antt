-- The written step.
use Rattle.std.specs.Prelude.{ℕ, ◌+◌, ◌==◌, ◌&&◌, ◌||◌, not, nat_lt, List, [], ◌∷◌, ◌++◌, Bool, true, false, Option, Some, None, is_none, if◌then◌else◌, length, slice_get, slice_set, slice_index}
use Rattle.std.specs.Option.{option_map_or}
use Rattle.std.specs.List.{list_any, list_all, range_with_len}
use Rattle.serializability.specs.Replay.{place_of}
use Rattle.serializability.specs.Polygraph.{Edge, Polygraph}
use Rattle.pruning_laws.specs.declared.side.Side.{Side}
use Rattle.pruning_laws.specs.declared.side.Side.TheVariants.{One, Two}
use Rattle.known_graph.specs.Tests.{is_line}
use Rattle.cube_laws.specs.Cubes.{Cube, is_decided, edges_under}
use Rattle.cube_laws.specs.State.{Node, State}
use Rattle.cube_laws.specs.declared.messages.CubeState.{CubeState}
use Rattle.cube_laws.specs.declared.messages.CubeState.TheVariants.{Open, Held, Split as Divided, Refuted, Solved as Ended}
use Rattle.cube_laws.specs.declared.messages.CubeEvent.{CubeEvent}
use Rattle.cube_laws.specs.declared.messages.CubeEvent.TheVariants.{Claim, TakeAny, Split, Refute, Solve, Release}
use Rattle.cube_laws.specs.declared.messages.CubeReply.{CubeReply}
use Rattle.cube_laws.specs.declared.messages.CubeReply.TheVariants.{Finished, HasCube, NotOpen, NoneNow, Cube as Given, NoCube, BadChoice, Children, BadCycle, Closed, BadOrder, Solved, Released}

-- ---- marks
abbrev pub is_open : CubeState → Bool
is_open Open = true
is_open (Held seat) = false
is_open (Divided c) = false
is_open Refuted = false
is_open Ended = false

abbrev pub is_solved : CubeState → Bool
is_solved Open = false
is_solved (Held seat) = false
is_solved (Divided c) = false
is_solved Refuted = false
is_solved Ended = true

abbrev pub is_held_by : ℕ → CubeState → Bool
is_held_by seat Open = false
is_held_by seat (Held other) = other == seat
is_held_by seat (Divided c) = false
is_held_by seat Refuted = false
is_held_by seat Ended = false

abbrev pub is_held : CubeState → Bool
is_held Open = false
is_held (Held seat) = true
is_held (Divided c) = false
is_held Refuted = false
is_held Ended = false

-- ---- nodes
-- the least node that the seat holds, where these are numbered from k
abbrev pub held_from : ℕ → ℕ → List Node → Option ℕ
held_from seat k [] = None
held_from seat k (x ∷ xs) = if is_held_by seat x.mark then Some k else held_from seat (k + 1) xs

abbrev pub or_else : Option ℕ → Option ℕ → Option ℕ
or_else None other = other
or_else (Some k) other = Some k

-- the open node of greatest number, where these are numbered from k
abbrev pub last_open_from : ℕ → List Node → Option ℕ
last_open_from k [] = None
last_open_from k (x ∷ xs) = or_else (last_open_from (k + 1) xs)
    (if is_open x.mark then Some k else None)

abbrev pub node_held : State → ℕ → Option ℕ
node_held s seat = held_from seat 0 s.nodes

abbrev pub last_open : State → Option ℕ
last_open s = last_open_from 0 s.nodes

-- the cube of a node, and of no choice where there is no such node
abbrev pub cube_at : State → ℕ → Cube
cube_at s id = option_map_or (λ x. x.cube) (slice_get s.nodes id) []

abbrev pub is_open_at : State → ℕ → Bool
is_open_at s id = option_map_or (λ x. is_open x.mark) (slice_get s.nodes id) false

abbrev pub has_solved : List Node → Bool
has_solved nodes = list_any (λ x. is_solved x.mark) nodes

-- whether a node is open or held
abbrev pub has_live : List Node → Bool
has_live nodes = list_any (λ x. is_open x.mark || is_held x.mark) nodes

-- a node is solved, the budget is spent, or no node is open or held
abbrev pub is_finished : State → Bool
is_finished s = has_solved s.nodes || ((s.closed == s.budget) || not (has_live s.nodes))

-- no node is solved, open or held: every cube is split or refuted
abbrev pub is_exhausted : State → Bool
is_exhausted s = not (has_solved s.nodes) && not (has_live s.nodes)

-- the nodes, of which this one is marked
abbrev pub with_mark : List Node → ℕ → CubeState → List Node
with_mark nodes id mark = option_map_or (λ x. slice_set nodes id (record x { mark = mark }))
    (slice_get nodes id) nodes

-- ---- what events ask
abbrev pub is_choice : State → ℕ → Bool
is_choice s c = nat_lt c (length s.polygraph.choices)

-- there is such a choice, and the cube leaves it open
abbrev pub can_split : State → Cube → ℕ → Bool
can_split s cube c = is_choice s c && not (is_decided cube c)

-- whether these are the nodes of a walk of at least one edge that ends where it begins, both ends
-- included
abbrev pub is_cycle : List Edge → List ℕ → Bool
is_cycle edges line = is_line edges (slice_index line 0) line (slice_index line 0)

abbrev pub decides_all : Polygraph → Cube → Bool
decides_all p cube = list_all (is_decided cube) (range_with_len 0 (length p.choices))

-- whether the order has nodes 1 to n, once each: as many, and each of them
abbrev pub lists_once : ℕ → List ℕ → Bool
lists_once n order = (length order == n) && list_all (λ v. list_any (λ w. w == v) order)
    (range_with_len 1 n)

-- whether each of these edges leads to a later place of the order, where node 0 stands before all
-- that it lists
abbrev pub keeps_edges : List ℕ → List Edge → Bool
keeps_edges order edges = list_all (λ e. nat_lt (place_of (0 ∷ order) e.0)
    (place_of (0 ∷ order) e.1)) edges

-- the cube leaves no choice open, and the order lists the nodes once and keeps its edges
abbrev pub is_solution : Polygraph → Cube → List ℕ → Bool
is_solution p cube order = decides_all p cube &&
    (lists_once p.nodes order && keeps_edges order (edges_under p cube))

-- ---- replies
abbrev pub claim_reply : State → ℕ → Option ℕ → CubeReply
claim_reply s id (Some held) = HasCube
claim_reply s id None = if is_open_at s id then Given id else NotOpen

abbrev pub any_reply : Option ℕ → Option ℕ → CubeReply
any_reply (Some held) next = HasCube
any_reply None None = NoneNow
any_reply None (Some id) = Given id

abbrev pub split_reply : State → ℕ → Option ℕ → CubeReply
split_reply s c None = NoCube
split_reply s c (Some id) = if can_split s (cube_at s id) c then Children (length s.nodes)
    (length s.nodes + 1) else BadChoice

abbrev pub refute_reply : State → List ℕ → Option ℕ → CubeReply
refute_reply s line None = NoCube
refute_reply s line (Some id) = if is_cycle (edges_under s.polygraph (cube_at s id)) line then
    Closed else BadCycle

abbrev pub solve_reply : State → List ℕ → Option ℕ → CubeReply
solve_reply s order None = NoCube
solve_reply s order (Some id) = if is_solution s.polygraph
    (cube_at s id) order then Solved else BadOrder

unfoldable pub reply_of : State → ℕ → CubeEvent → CubeReply
reply_of s seat (Claim id) = if is_finished s then Finished else claim_reply s id (node_held s seat)
reply_of s seat TakeAny = if is_finished s then Finished else any_reply (node_held s seat)
    (last_open s)
reply_of s seat (Split c) = if is_finished s then Finished else split_reply s c (node_held s seat)
reply_of s seat (Refute line) = if is_finished s then Finished else refute_reply s line
    (node_held s seat)
reply_of s seat (Solve order) = if is_finished s then Finished else solve_reply s order
    (node_held s seat)
reply_of s seat Release = Released

-- ---- states
abbrev pub child : ℕ → Cube → ℕ → Side → Node
child id cube c side = record { parent = id; cube = (c, side) ∷ cube; mark = Open }

-- the node is marked, and closed
abbrev pub closed_by : State → ℕ → CubeState → State
closed_by s id mark = record {
  polygraph = s.polygraph;
  nodes = with_mark s.nodes id mark;
  closed
      = s.closed + 1;
  budget = s.budget;
}

-- the node is split, and its children by both sides of the choice are added, open
abbrev pub split_at : State → ℕ → ℕ → State
split_at s id c = record {
  polygraph = s.polygraph;
  nodes = with_mark s.nodes id
      (Divided c) ++ child id (cube_at s id) c One ∷ child id
      (cube_at s id) c Two ∷ [];
  closed = s.closed + 1;
  budget = s.budget;
}

abbrev pub held_at : State → ℕ → ℕ → State
held_at s seat id = record {
  polygraph = s.polygraph;
  nodes = with_mark s.nodes id
      (Held seat);
  closed = s.closed;
  budget = s.budget;
}

abbrev pub opened_at : State → Option ℕ → State
opened_at s None = s
opened_at s (Some id) = record {
  polygraph = s.polygraph;
  nodes = with_mark s.nodes id Open;
  closed
      = s.closed;
  budget = s.budget;
}

-- the node that a claim gives, and the one that a request for any gives
abbrev pub claimed : State → ℕ → Option ℕ → Option ℕ
claimed s id (Some held) = None
claimed s id None = if is_open_at s id then Some id else None

abbrev pub taken : Option ℕ → Option ℕ → Option ℕ
taken (Some held) next = None
taken None next = next

abbrev pub held_where : State → ℕ → Option ℕ → State
held_where s seat None = s
held_where s seat (Some id) = held_at s seat id

abbrev pub split_where : State → ℕ → Option ℕ → State
split_where s c None = s
split_where s c (Some id) = if can_split s (cube_at s id) c then split_at s id c else s

abbrev pub refuted_where : State → List ℕ → Option ℕ → State
refuted_where s line None = s
refuted_where s line (Some id) = if is_cycle (edges_under s.polygraph (cube_at s id)) line then
    closed_by s id Refuted else s

abbrev pub solved_where : State → List ℕ → Option ℕ → State
solved_where s order None = s
solved_where s order (Some id) = if is_solution s.polygraph
    (cube_at s id) order then closed_by s id Ended else s

unfoldable pub next_of : State → ℕ → CubeEvent → State
next_of s seat (Claim id) = if is_finished s then s else held_where s seat
    (claimed s id (node_held s seat))
next_of s seat TakeAny = if is_finished s then s else held_where s seat
    (taken (node_held s seat) (last_open s))
next_of s seat (Split c) = if is_finished s then s else split_where s c (node_held s seat)
next_of s seat (Refute line) = if is_finished s then s else refuted_where s line (node_held s seat)
next_of s seat (Solve order) = if is_finished s then s else solved_where s order (node_held s seat)
next_of s seat Release = opened_at s (node_held s seat)

-- a request for any node waits where the seat holds none, the search goes on, no node is open, and
-- another seat holds one
unfoldable pub waits_of : State → ℕ → CubeEvent → Bool
waits_of s seat (Claim id) = false
waits_of s seat TakeAny = not (is_finished s) &&
    (is_none (node_held s seat) && (is_none (last_open s) && list_any
    (λ x. is_held x.mark) s.nodes))
waits_of s seat (Split c) = false
waits_of s seat (Refute line) = false
waits_of s seat (Solve order) = false
waits_of s seat Release = false
