use Rattle.node_names.proofs.Prelude.{◌≡◌, ◌++◌, map, drop, view, nodes_of, names_of}
use Rattle.node_names.proofs.number.names_of.Given as goal

abbrev pub invariant-loop-session : goal.invariant-loop-session
invariant-loop-session l = l.names.items ++ names_of (nodes_of (map view (drop l.session-index l.sessions))) ≡ names_of (nodes_of (map view l.sessions))
