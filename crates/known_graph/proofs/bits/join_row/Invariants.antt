use Rattle.known_graph.proofs.JoinedRows.{IsRowJoined}
use Rattle.known_graph.proofs.bits.join_row.Given as goal

abbrev pub invariant-loop-i : goal.invariant-loop-i
invariant-loop-i l = IsRowJoined l.len l.to l.from l.i l.initial.words l.words
