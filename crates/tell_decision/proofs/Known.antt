-- What is known of a history that has no order.
use Rattle.std.proofs.Common.{ℕ, List, [], ◌++◌, inl, inr, arith}
use Rattle.std.specs.List.{Contains}
use Rattle.std.proofs.lemmas.List.Elements.{Contains-append_left}
use Rattle.session_log.specs.Text.{ClientSession}
use Rattle.serializability.specs.Log.{Log}
use Rattle.serializability.specs.Reads.{IsClean}
use Rattle.serializability.specs.Polygraph.{Edge, arcs}
use Rattle.chain_laws.specs.Chains.{inner_edges, initial_first, chain_polygraph}
use Rattle.log_definitions.specs.Numbers.{log_of}
use Rattle.prune_ledger.specs.declared.ledger.Ledger.{Ledger}
use Rattle.prune_ledger.proofs.Grown.{walk_in}
use Rattle.reasons.specs.Given.{HaveNone}
use Rattle.reduction.specs.Chained.{IsKnownCycle}
use Rattle.reduction.specs.Outcome.{IsDeadHistory}
use Rattle.tell_steps.specs.Lines.{Stands}
use Rattle.tell_steps.specs.Ledgers.{IsClosed, IsDeadLedger}
use Rattle.tell_steps.proofs.Ledgers.{known_closed}

-- an arc is a known edge of the chains
arc_known : (log : Log) (e : Edge) → Contains (arcs log) e → Contains (chain_polygraph log).known e
arc_known log e c = Contains-append_left (arcs log ++ inner_edges log) (initial_first log) e (Contains-append_left (arcs log) (inner_edges log) e c)

-- a cycle of known edges is a line on which the log itself shows each edge
pub cycle_closed : (ss : List ClientSession) → IsClean (log_of ss) → (line : List ℕ) → IsKnownCycle (log_of ss) line → IsClosed ss [] line
cycle_closed ss clean line (inl c) =
    let log = log_of ss in
    let w = c.1 in
    known_closed ss clean line (c.0, record { inner = w.inner; shape = w.shape; steps = walk_in (arcs log) (chain_polygraph log).known (arc_known log) w.inner c.0 c.0 w.steps })
cycle_closed ss clean line (inr c) = known_closed ss clean line c.1

pub reason_there : (ss : List ClientSession) (a b : ℕ) → Stands ss [] [] a b → HaveNone ss a b → ⊥
reason_there ss a b h none = elim (h.has none) [ inl o ↦ omega (arith, o.among.1) | inr o ↦ omega (arith, o.among.1) ]

pub dead_ledger : (ss : List ClientSession) (ledger : Ledger) → IsDeadHistory ss ledger → IsDeadLedger ss ledger
dead_ledger ss ledger h = record {
  entries = record { poly = h.poly; known = λ e. (h.unpruned.chained.known e).0; choices = h.unpruned.chained.choices; shown = h.dead.valid.shown };
  some = h.dead.cycle;
  cycle = h.dead.valid.cycle;
}
