use Rattle.session_log.proofs.Prelude.{◌≡◌, ◌++◌, map, take, flat_map, view, session_text, least_version, header_text}
use Rattle.session_log.proofs.print.print_log.Given as goal

abbrev pub invariant-loop-session : goal.invariant-loop-session
invariant-loop-session l = l.out.items ≡ header_text (least_version (map view l.sessions)) ++ flat_map session_text (map view (take l.session-index l.sessions))
