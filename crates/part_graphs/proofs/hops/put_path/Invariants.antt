use Rattle.std.proofs.Common.{◌≡◌, ◌++◌, take, map}
use Rattle.session_log.specs.Text.{view}
use Rattle.log_lines.specs.Rows.{rows_of}
use Rattle.part_graphs.specs.Hops.{path_arrows}
use Rattle.part_graphs.proofs.hops.put_path.Given as goal

abbrev pub invariant-loop-hop : goal.invariant-loop-hop
invariant-loop-hop l = l.out.items ≡ l.initial.out.items ++ path_arrows (rows_of l.log.places.now) (map view l.log.sessions.now) (take l.hop-index l.path)
