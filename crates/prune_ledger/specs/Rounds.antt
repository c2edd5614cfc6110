-- What a worker's round does.
use Rattle.std.specs.Prelude.{◌≡◌, ◌⊎◌, ◌↔◌, ℕ, ◌≤◌, List, [], ◌∷◌, ◌++◌, slice_get, Some}
use Rattle.std.specs.List.{Contains}
use Rattle.serializability.specs.Polygraph.{Edge, Choice}
use Rattle.reach_laws.specs.Reach.{Graph, Reaches}
use Rattle.polygraph.specs.Polygraphs.{JoinsBoth}
use Rattle.pruning_laws.specs.declared.side.Side.{Side}
use Rattle.pruning_laws.specs.Forced.{IsRefuted, edges_of, other}
use Rattle.prune_ledger.specs.Posted.{Posted}
use Rattle.prune_ledger.specs.declared.messages.PruneEvent.{PruneEvent}
use Rattle.prune_ledger.specs.declared.messages.PruneEvent.TheVariants.{Take, Post}
use Rattle.prune_ledger.specs.declared.messages.PruneReply.{PruneReply}
use Rattle.prune_ledger.specs.declared.messages.PruneReply.TheVariants.{Judge, Entered}

-- an edge of the side that goes against a walk
pub record Refutes (edges side : List Edge) (e : Edge) : Type 0 where
  pub within : Contains side e
  pub back : Reaches edges e.1 e.0

-- a walk leads against the edge, and it and each edge of the choice join nodes of the graph
pub record GoesAgainst (graph : Graph) (h : Choice) (e : Edge) : Type 0 where
  pub nodes : (e.1 ≤ graph.nodes) × (e.0 ≤ graph.nodes)
  pub back : Reaches graph.edges e.1 e.0
  pub joined : JoinsBoth graph.nodes h

abbrev pub IsPostOf : ℕ → PruneEvent → Type 0
IsPostOf c (Post q) = q.choice ≡ c
IsPostOf c _ = ⊥

-- one of these calls posts a side of the choice
abbrev pub HasPost : ℕ → List (PruneEvent × PruneReply) → Type 0
HasPost c [] = ⊥
HasPost c (x ∷ xs) = IsPostOf c x.0 ⊎ HasPost c xs

-- the call handed out this choice
abbrev pub Hands : ℕ → PruneEvent → PruneReply → Type 0
Hands c Take r = r ≡ Judge c
Hands c _ r = ⊥

-- each choice that was handed out is in the list, or a later call posts a side of it
abbrev pub EachHandled : List ℕ → List (PruneEvent × PruneReply) → Type 0
EachHandled passed [] = Unit {0}
EachHandled passed (x ∷ xs) = ((c : ℕ) → Hands c x.0 x.1 → Contains passed c ⊎ HasPost c xs)
    × EachHandled passed xs

-- the calls between the two are handled
pub record Handled (passed : List ℕ) (before now : List (PruneEvent × PruneReply)) : Type 0 where
  pub calls : List (PruneEvent × PruneReply)
  pub same : now ≡ before ++ calls
  pub each : EachHandled passed calls

-- one call more, which posts a side of the choice
pub record PostedOf (choice : ℕ) (before now : List (PruneEvent × PruneReply)) : Type 0 where
  pub post : Posted
  pub reply : PruneReply
  pub same : now ≡ before ++ (Post post, reply) ∷ []
  pub its : post.choice ≡ choice

-- the same nodes, and these edges more
pub record AddsEdges (old new : Graph) (more : List Edge) : Type 0 where
  pub nodes : new.nodes ≡ old.nodes
  pub edges : (e : Edge) → (Contains new.edges e ↔ (Contains old.edges e ⊎ Contains more e))

-- the same nodes, and no edge less
pub record Extends (old new : Graph) : Type 0 where
  pub nodes : new.nodes ≡ old.nodes
  pub edges : (e : Edge) → Contains old.edges e → Contains new.edges e

-- where the post of a side was entered, the edges of the other side are added, and else nothing
-- changes
pub record IsKeptUp (h : Choice) (side : Side) (reply : PruneReply) (old new : Graph) : Type 0 where
  pub entered : reply ≡ Entered → AddsEdges old new (edges_of h (other side))
  pub same : (reply ≡ Entered → ⊥) → new ≡ old

-- one call more; by its reply the graph is kept up, as by the post of a side
pub record KeepsUp (h : Choice) (side : Side) (before now : List (PruneEvent × PruneReply))
    (old new : Graph) : Type 0 where
  pub event : PruneEvent
  pub reply : PruneReply
  pub same : now ≡ before ++ (event, reply) ∷ []
  pub graph : IsKeptUp h side reply old new

-- the calls between the two settle the choice: it is in the list, or one of them posts a side of it
pub record Settled (choice : ℕ) (passed : List ℕ) (listed : List ℕ)
    (before now : List (PruneEvent × PruneReply)) : Type 0 where
  pub calls : List (PruneEvent × PruneReply)
  pub same : now ≡ before ++ calls
  pub each : EachHandled listed calls
  pub its : Contains listed choice ⊎ HasPost choice calls
  pub more : List ℕ
  pub longer : listed ≡ passed ++ more

-- a turn: the calls between the two are handled, and the list is longer
pub record Turned (passed listed : List ℕ) (before now : List (PruneEvent × PruneReply)) : Type 0
  where
    pub handled : Handled listed before now
    pub more : List ℕ
    pub longer : listed ≡ passed ++ more

-- neither side of the choice is refuted; one that is not there counts as one without edges
abbrev pub IsOpenIn : List Edge → List Choice → ℕ → Type 0
IsOpenIn edges choices c = (h : Choice) → slice_get choices c ≡ Some h → (side : Side)
    → IsRefuted edges (edges_of h side) → ⊥
