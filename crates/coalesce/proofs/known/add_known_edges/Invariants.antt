use Rattle.coalesce.proofs.Prelude.{◌≡◌, ◌++◌, log_of, inner_edges, IsWith, so_far}
use Rattle.coalesce.proofs.Between.{first_of_key}
use Rattle.coalesce.proofs.known.add_known_edges.Given as goal

abbrev pub invariant-loop-key : goal.invariant-loop-key
invariant-loop-key l =
    let log = log_of l.chains in
    record {
      edges : IsWith l.fn.known.edges (inner_edges log ++ so_far (first_of_key log) l.key) l.known.edges;
      nodes : l.known.nodes ≡ log.nodes;
    }
