use Rattle.std.proofs.Common.{◌≡◌, ◌++◌, drop, map}
use Rattle.session_log.specs.Text.{view}
use Rattle.log_lines.specs.Rows.{rows_of}
use Rattle.tell_evidence.specs.Sentences.{hop_lines}
use Rattle.tell_evidence.proofs.paths.put_hops.Given as goal

abbrev pub invariant-loop-hop : goal.invariant-loop-hop
invariant-loop-hop l = l.out.items ++ hop_lines (rows_of l.log.places.now) (map view l.log.sessions.now) (drop l.hop-index l.hops) ≡ l.initial.out.items ++ hop_lines (rows_of l.log.places.now) (map view l.log.sessions.now) l.hops
