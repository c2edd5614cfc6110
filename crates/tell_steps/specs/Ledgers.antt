-- Ledgers of the polygraph of a log's chains that end in a cycle.
use Rattle.std.specs.Prelude.{◌≡◌, ℕ, List, [], ◌∷◌, ◌++◌, map, IsSome, IfSome}
use Rattle.std.specs.List.{Contains}
use Rattle.session_log.specs.Text.{ClientSession}
use Rattle.reach_laws.specs.Reach.{IsCycle}
use Rattle.serializability.specs.Polygraph.{Edge, Polygraph}
use Rattle.chain_laws.specs.Chains.{chain_polygraph, chain_choices}
use Rattle.log_definitions.specs.Numbers.{log_of}
use Rattle.prune_ledger.specs.Ledger.{AreShown, edges_after}
use Rattle.prune_ledger.specs.Pruned.{posts_in}
use Rattle.prune_ledger.specs.Pruned as pruned
use Rattle.prune_ledger.specs.declared.ledger.LedgerEntry.{LedgerEntry}
use Rattle.prune_ledger.specs.declared.ledger.Ledger.{Ledger}
use Rattle.tell_proposals.specs.declared.proposal.Step.{Step}
use Rattle.tell_reasons.specs.declared.why.ChainOrder.{ChainOrder}
use Rattle.tell_steps.specs.Steps.{IsOrder, turned, edges_in}
use Rattle.tell_steps.specs.Orders.{orders_in, kept_order}
use Rattle.tell_steps.specs.Lines.{HasEnds, IsRound, LineStands}

-- the entries are shown, of a polygraph with the choices between the chains, whose known edges are
-- no others than theirs
pub record AreEntries (ss : List ClientSession) (entries : List LedgerEntry) : Type 0 where
  pub poly : Polygraph
  pub known : (e : Edge) → Contains poly.known e → Contains (chain_polygraph (log_of ss)).known e
  pub choices : poly.choices ≡ chain_choices (log_of ss)
  pub shown : AreShown poly [] (posts_in entries)

-- such entries, and a cycle in the known edges and the sides that they keep
pub record IsDeadLedger (ss : List ClientSession) (ledger : Ledger) : Type 0 where
  pub entries : AreEntries ss ledger.entries.items
  pub some : IsSome ledger.cycle
  pub cycle : IfSome ledger.cycle (λ line. IsCycle
      (edges_after entries.poly (pruned.kept_by ledger.entries.items)) line.items)

-- the orders that the entries keep
abbrev pub kept_by : List ClientSession → List LedgerEntry → List ChainOrder
kept_by ss entries = map (kept_order (orders_in (log_of ss))) (posts_in entries)

-- the order is of two chains, of which the other way round has the edge, and the walk leads against it
-- and rests on what is before
pub record IsStep (ss : List ClientSession) (earlier : List ChainOrder) (s : Step) : Type 0 where
  pub edge : Edge
  pub two_chains : IsOrder (log_of ss) s.order
  pub refuted : Contains (edges_in (log_of ss) (turned s.order)) edge
  pub ends : HasEnds edge.1 edge.0 s.walk.items
  pub rests : LineStands ss earlier [] s.walk.items

-- the orders that steps establish
abbrev pub orders_of : List Step → List ChainOrder
orders_of steps = map (λ s. s.order) steps

-- each of the steps rests on what is before it, behind steps that establish these orders
abbrev pub AreBuilt : List ClientSession → List ChainOrder → List Step → Type 0
AreBuilt ss earlier [] = Unit {0}
AreBuilt ss earlier (s ∷ rest) = IsStep ss earlier s × AreBuilt ss (earlier ++ s.order ∷ []) rest

-- the line closes, and rests on what the entries keep
pub record IsClosed (ss : List ClientSession) (kept : List ChainOrder)
    (line : List ℕ) : Type 0 where
  pub round : IsRound line
  pub rests : LineStands ss kept [] line
