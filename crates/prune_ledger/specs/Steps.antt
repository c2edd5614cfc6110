-- The written step.
use Rattle.std.specs.Prelude.{ℕ, ◌+◌, ◌&&◌, ◌||◌, not, List, [], ◌∷◌, ◌++◌, Bool, true, false, Option, Some, None, if◌then◌else◌, slice_get, slice_set}
use Rattle.std.specs.Option.{option_map_or}
use Rattle.std.specs.List.{filter}
use Rattle.serializability.specs.Polygraph.{Edge}
use Rattle.reach_laws.specs.Reach.{Graph}
use Rattle.pruning_laws.specs.declared.side.Side.{Side}
use Rattle.pruning_laws.specs.declared.side.Side.TheVariants.{One, Two}
use Rattle.pruning_laws.specs.Forced.{edges_of, other}
use Rattle.known_graph.specs.Pairs.{all_pairs}
use Rattle.known_graph.specs.Tests.{has_edge, is_line}
use Rattle.prune_ledger.specs.Posted.{Posted}
use Rattle.prune_ledger.specs.State.{State}
use Rattle.prune_ledger.specs.declared.messages.ChoiceState.{ChoiceState}
use Rattle.prune_ledger.specs.declared.messages.PruneEvent.{PruneEvent}
use Rattle.prune_ledger.specs.declared.messages.PruneEvent.TheVariants.{Take, Post, Pass, Release}
use Rattle.prune_ledger.specs.declared.messages.PruneReply.{PruneReply}
use Rattle.prune_ledger.specs.declared.messages.PruneReply.TheVariants.{Judge, NoneLeft, Entered, AlreadyIn, BadWalk, Noted, Released, Dead}

-- those of the pairs of nodes 0 to n that are among these edges, by the first node and then the
-- second
unfoldable pub listed : ℕ → List Edge → List Edge
listed n edges = filter (has_edge edges) (all_pairs n)

-- the graph with these edges more
abbrev pub with_edges : Graph → List Edge → Graph
with_edges g more = record { nodes = g.nodes; edges = listed g.nodes (g.edges ++ more) }

abbrev pub refuses : ChoiceState → Side → Bool
refuses m One = m.one
refuses m Two = m.two

abbrev pub refusing : ChoiceState → Side → ChoiceState
refusing m One = record m { one = true }
refusing m Two = record m { two = true }

-- neither side is refused, and the choice was not handed out
abbrev pub is_free : ChoiceState → Bool
is_free m = not (m.one || m.two) && not m.handed

-- the least free choice, where these are numbered from k
abbrev pub free_from : ℕ → List ChoiceState → Option ℕ
free_from k [] = None
free_from k (m ∷ ms) = if is_free m then Some k else free_from (k + 1) ms

abbrev pub is_refused : State → ℕ → Side → Bool
is_refused s c side = option_map_or (λ m. refuses m side) (slice_get s.marks c) false

abbrev pub side_at : State → ℕ → Side → List Edge
side_at s c side = option_map_or (λ h. edges_of h side) (slice_get s.choices c) []

abbrev pub is_choice : State → ℕ → Bool
is_choice s c = option_map_or (λ h. true) (slice_get s.choices c) false

-- the edge is in the side, and the walk leads back over edges of the state
abbrev pub is_against : State → Posted → Bool
is_against s q = has_edge (side_at s q.choice q.side) q.edge && is_line s.graph.edges q.edge.1
    q.walk q.edge.0

abbrev pub post_reply : State → Posted → PruneReply
post_reply s q = if is_choice s q.choice then (if is_refused s q.choice q.side then AlreadyIn else
    (if is_against s q then Entered else BadWalk)) else BadWalk

abbrev pub is_entered : PruneReply → Bool
is_entered Entered = true
is_entered _ = false

abbrev pub refused_mark : State → ℕ → Side → List ChoiceState
refused_mark s c side = option_map_or (λ m. slice_set s.marks c (refusing m side))
    (slice_get s.marks c) s.marks

-- the side is refused, and the other side's edges are added
abbrev pub refused : State → ℕ → Side → State
refused s c side = record {
  choices = s.choices;
  graph = with_edges s.graph
      (side_at s c (other side));
  marks = refused_mark s c side;
  dead = is_refused s c (other side);
}

abbrev pub hand_out : ChoiceState → ChoiceState
hand_out m = record m { handed = true }

abbrev pub handed_mark : List ChoiceState → ℕ → List ChoiceState
handed_mark marks c = option_map_or (λ m. slice_set marks c (hand_out m)) (slice_get marks c) marks

abbrev pub take_reply : Option ℕ → PruneReply
take_reply None = NoneLeft
take_reply (Some c) = Judge c

abbrev pub taken : State → Option ℕ → State
taken s None = s
taken s (Some c) = record s { marks = handed_mark s.marks c }

abbrev pub posted : State → Posted → State
posted s q = if is_entered (post_reply s q) then refused s q.choice q.side else s

abbrev pub next_of : State → ℕ → PruneEvent → State
next_of s seat Take = if s.dead then s else taken s (free_from 0 s.marks)
next_of s seat (Post q) = if s.dead then s else posted s q
next_of s seat (Pass c) = s
next_of s seat Release = s

abbrev pub reply_of : State → ℕ → PruneEvent → PruneReply
reply_of s seat Take = if s.dead then Dead else take_reply (free_from 0 s.marks)
reply_of s seat (Post q) = if s.dead then Dead else post_reply s q
reply_of s seat (Pass c) = if s.dead then Dead else Noted
reply_of s seat Release = Released
