use Rattle.ledger_checks.proofs.Prelude.{◌++◌, List, take, Edge, HasEdges}
use Rattle.ledger_checks.proofs.kept.KeptEdges.add_all.Given as goal

abbrev pub invariant-loop-edge : goal.invariant-loop-edge
invariant-loop-edge l = (before : List Edge) → HasEdges l.fn.self before → HasEdges l.self (before ++ take l.edge-index l.edges)
