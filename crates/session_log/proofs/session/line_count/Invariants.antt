use Rattle.session_log.proofs.Prelude.{◌≡◌, ◌+◌, ◌<◌, ◌^◌, map, drop, length, flat_map, view, session_lines, capped}
use Rattle.session_log.proofs.session.line_count.Given as goal

abbrev pub invariant-loop-session : goal.invariant-loop-session
invariant-loop-session l = record {
  low : l.count < 2 ^ 64;
  lines : capped (l.count + length (flat_map session_lines (map view (drop l.session-index l.sessions)))) ≡ capped (length (flat_map session_lines (map view l.sessions)));
}
