use Rattle.session_history.proofs.Prelude.{map, take, entry_of, AreReads, final_node, readers_of}
use Rattle.session_history.specs.Sources.{found_in}
use Rattle.session_history.proofs.reads.reads_of.Given as goal

abbrev pub invariant-loop-key : goal.invariant-loop-key
invariant-loop-key l = AreReads l.nodes (λ v. found_in 0 (λ x w. final_node (entry_of l.writes w) x) v (map readers_of (take l.key l.rows))) l.reads.items
