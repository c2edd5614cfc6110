-- What pruning gives.
use Rattle.std.specs.Prelude.{◌≡◌, ◌↔◌, ◌||◌, ℕ, List, [], ◌∷◌, Bool, true, Some, IfSome, IsSome, IsNone, if◌then◌else◌, map, length, slice_get}
use Rattle.std.specs.List.{Contains, AllByRecursion}
use Rattle.serializability.specs.Polygraph.{Edge, Choice, Polygraph, Fits}
use Rattle.reach_laws.specs.Reach.{Graph, IsCyclic, IsCycle}
use Rattle.reach_rows.specs.ReachRows.{AreRowsOf}
use Rattle.pruning_laws.specs.declared.side.Side.{Side}
use Rattle.pruning_laws.specs.Forced.{IsRefuted, edges_of, IsForced, IsDead, open_from}
use Rattle.pruning_laws.specs.Ledger.{Entry, sides_in}
use Rattle.prune_ledger.specs.Posted.{Posted}
use Rattle.prune_ledger.specs.Ledger.{kept_after, edges_after, AreShown}
use Rattle.prune_ledger.specs.State.{State}
use Rattle.prune_ledger.specs.Rounds.{IsOpenIn}
use Rattle.prune_ledger.specs.Runs.{Grown}
use Rattle.prune_ledger.specs.Entered.{AreRounds, IsOfRounds}
use Rattle.prune_ledger.specs.declared.messages.ChoiceState.{ChoiceState}
use Rattle.prune_ledger.specs.declared.ledger.LedgerEntry.{LedgerEntry}
use Rattle.prune_ledger.specs.declared.ledger.Ledger.{Ledger}

abbrev pub posts_in : List LedgerEntry → List Posted
posts_in entries = map (λ x. x.post) entries

-- the sides that the entries keep, the newest first
abbrev pub kept_by : List LedgerEntry → List Entry
kept_by entries = kept_after [] (posts_in entries)

-- each entry's edge is in its refused side, and its walk leads against it over the known edges and
-- the sides that earlier entries keep; a cycle, where one is given, is one in the known edges and
-- the sides that all entries keep
pub record IsLedgerOf (p : Polygraph) (ledger : Ledger) : Type 0 where
  pub shown : AreShown p [] (posts_in ledger.entries.items)
  pub cycle : IfSome ledger.cycle (λ line. IsCycle
      (edges_after p (kept_by ledger.entries.items)) line.items)

-- neither side of any choice is refuted, and the known edges have no cycle
pub record IsReduced (p : Polygraph) : Type 0 where
  pub acyclic : IsCyclic p.known → ⊥
  pub unrefuted : AllByRecursion (λ h. (side : Side) → IsRefuted p.known (edges_of h side) → ⊥)
      p.choices

-- what is left of a polygraph that is not dead: its known edges with those of the forced sides, the
-- choices that are open, what reaches what by these edges, and the ledger of the forced sides,
-- which has what the rounds entered
pub record Remainder : Type 0 where
  pub poly : Polygraph
  pub rows : Graph
  pub ledger : Ledger

pub record IsRemainder (p : Polygraph) (r : Remainder) : Type 0 where
  pub forced : IsForced p (sides_in (kept_by r.ledger.entries.items))
  pub alive : IsDead p → ⊥
  pub nodes : r.poly.nodes ≡ p.nodes
  pub known : (e : Edge) → (Contains r.poly.known e ↔ Contains
      (edges_after p (kept_by r.ledger.entries.items)) e)
  pub choices : r.poly.choices ≡ open_from (sides_in (kept_by r.ledger.entries.items)) 0 p.choices
  pub reduced : IsReduced r.poly
  pub rows : AreRowsOf r.rows (record { nodes = r.poly.nodes; edges = r.poly.known })
  pub ledger : IsLedgerOf p r.ledger
  pub rounds : IsOfRounds p r.ledger.entries.items
  pub whole : IsNone r.ledger.cycle
  pub orders : (order : List ℕ) → (Fits p order ↔ Fits r.poly order)

-- no order fits, and the ledger, which has what the rounds entered, shows it by a cycle
pub record IsDeadBy (p : Polygraph) (ledger : Ledger) : Type 0 where
  pub dead : IsDead p
  pub valid : IsLedgerOf p ledger
  pub rounds : IsOfRounds p ledger.entries.items
  pub cycle : IsSome ledger.cycle
  pub orders : (order : List ℕ) → Fits p order → ⊥

-- these entries are the ledger of what the machine keeps, and those of rounds that led to its state
pub record IsProgress (p : Polygraph) (entries : List LedgerEntry) (s : State) : Type 0 where
  pub grown : Grown p (kept_by entries) s
  pub shown : AreShown p [] (posts_in entries)
  pub rounds : AreRounds p entries s

-- the graph has the known edges and those of these kept sides
pub record IsGraphOf (p : Polygraph) (kept : List Entry) (graph : Graph) : Type 0 where
  pub nodes : graph.nodes ≡ p.nodes
  pub from : (e : Edge) → Contains graph.edges e → Contains (edges_after p kept) e
  pub to : (e : Edge) → Contains (edges_after p kept) e → Contains graph.edges e

-- the choices of which neither side is refused
abbrev pub unrefused : List ChoiceState → List Choice → List Choice
unrefused [] hs = []
unrefused (m ∷ ms) [] = []
unrefused (m ∷ ms) (h ∷ hs) = if m.one || m.two then unrefused ms hs else h ∷ unrefused ms hs

-- each choice whose flag is set is open in these edges
pub record AreOpen (edges : List Edge) (choices : List Choice) (flags : List Bool) : Type 0 where
  pub each : (c : ℕ) → slice_get flags c ≡ Some true → IsOpenIn edges choices c

-- each choice has a refused side, or its flag is set
pub record AreSettled (marks : List ChoiceState) (flags : List Bool) : Type 0 where
  pub each : (c : ℕ) (m : ChoiceState) (f : Bool) → slice_get marks c ≡ Some m
      → slice_get flags c ≡ Some f → ((m.one || m.two) || f) ≡ true

-- nothing is left to refute: the graph has no cycle, and each choice has a refused side or was
-- passed
pub record IsLast (p : Polygraph) (entries : List LedgerEntry) (s : State) (graph : Graph)
    (flags : List Bool) : Type 0 where
  pub progress : IsProgress p entries s
  pub graph_of : IsGraphOf p (kept_by entries) graph
  pub acyclic : IsCyclic graph.edges → ⊥
  pub flagged : length flags ≡ length p.choices
  pub open_in : AreOpen graph.edges p.choices flags
  pub settled : AreSettled s.marks flags
