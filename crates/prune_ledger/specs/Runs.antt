-- What holds of every list of steps of the machine.
use Rattle.std.specs.Prelude.{◌≡◌, ℕ, List, [], ◌∷◌, ◌++◌, true, false, length, if◌then◌else◌}
use Rattle.std.specs.List.{AllByRecursion, Contains}
use Rattle.serializability.specs.Polygraph.{Edge, Polygraph}
use Rattle.reach_laws.specs.Reach.{IsCyclic}
use Rattle.pruning_laws.specs.declared.side.Side.{Side}
use Rattle.pruning_laws.specs.Forced.{Sides, other}
use Rattle.pruning_laws.specs.Ledger.{Entry as Kept, sides_in, IsLedger}
use Rattle.known_graph.specs.Graphs.{IsKnownGraph}
use Rattle.polygraph.specs.Polygraphs.{IsPolygraph}
use Rattle.desk.specs.declared.history.Entry.{Entry}
use Rattle.prune_ledger.specs.Posted.{Posted}
use Rattle.prune_ledger.specs.State.{State}
use Rattle.prune_ledger.specs.Steps.{is_free, is_refused, is_entered}
use Rattle.prune_ledger.specs.Ledger.{edges_after}
use Rattle.prune_ledger.specs.declared.messages.PruneEvent.{PruneEvent}
use Rattle.prune_ledger.specs.declared.messages.PruneEvent.TheVariants.{Post}
use Rattle.prune_ledger.specs.declared.messages.PruneReply.{PruneReply}
use Rattle.prune_ledger.specs.declared.messages.PruneReply.TheVariants.{Entered}

-- what the type of polygraphs keeps
pub record IsWhole (p : Polygraph) : Type 0 where
  pub choices : IsPolygraph p
  pub known : IsKnownGraph (record { nodes = p.nodes; edges = p.known })

-- the polygraph's choices and known edges, and nothing refused or handed out
pub record IsOpening (p : Polygraph) (s : State) : Type 0 where
  pub same : s.choices ≡ p.choices
  pub graph : s.graph ≡ record { nodes = p.nodes; edges = p.known }
  pub marked : length s.marks ≡ length s.choices
  pub free : AllByRecursion (λ m. is_free m ≡ true) s.marks
  pub alive : s.dead ≡ false

-- where the step is a post that was entered, the side that it keeps is in the set
abbrev pub KeepsForced : Sides → PruneEvent → PruneReply → Type 0
KeepsForced forced (Post q) r = r ≡ Entered → forced q.choice (other q.side) ≡ true
KeepsForced forced _ r = Unit {0}

abbrev pub EachKeepsForced : Sides → List (Entry PruneEvent PruneReply) → Type 0
EachKeepsForced forced history = AllByRecursion (λ x. KeepsForced forced x.event x.reply) history

-- the post of a step, where it was entered
abbrev pub posts_of : PruneEvent → PruneReply → List Posted
posts_of (Post q) r = if is_entered r then q ∷ [] else []
posts_of _ r = []

-- the posts that were entered, in order
abbrev pub ledger_of : List (Entry PruneEvent PruneReply) → List Posted
ledger_of [] = []
ledger_of (x ∷ xs) = posts_of x.event x.reply ++ ledger_of xs

-- a state in which these sides are kept, the newest first: each was refuted in turn, the edges are
-- the known ones and theirs, a side is refused exactly where the other one is kept, and a dead
-- machine's edges have a cycle
pub record Grown (p : Polygraph) (kept : List Kept) (s : State) : Type 0 where
  pub same : s.choices ≡ p.choices
  pub nodes : s.graph.nodes ≡ p.nodes
  pub known : IsKnownGraph s.graph
  pub from : (e : Edge) → Contains s.graph.edges e → Contains (edges_after p kept) e
  pub to : (e : Edge) → Contains (edges_after p kept) e → Contains s.graph.edges e
  pub marked : length s.marks ≡ length s.choices
  pub marks : (c : ℕ) (side : Side) → is_refused s c side ≡ true
      → sides_in kept c (other side) ≡ true
  pub back : (c : ℕ) (side : Side) → sides_in kept c (other side) ≡ true
      → is_refused s c side ≡ true
  pub ledger : IsLedger p kept
  pub dead : s.dead ≡ true → IsCyclic s.graph.edges
