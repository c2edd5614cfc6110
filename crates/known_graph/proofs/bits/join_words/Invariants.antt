use Rattle.known_graph.proofs.Joined.{IsJoinedTo}
use Rattle.known_graph.proofs.bits.join_words.Given as goal

abbrev pub invariant-loop-i : goal.invariant-loop-i
invariant-loop-i l = IsJoinedTo l.initial.words l.more l.words l.i
