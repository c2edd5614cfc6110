use Rattle.session_history.proofs.Prelude.{map, take, view, unknown_writes, FindsLast}
use Rattle.session_history.proofs.taken.UnknownWrites.of.Given as goal

abbrev pub invariant-loop-session : goal.invariant-loop-session
invariant-loop-session l = FindsLast (unknown_writes (map view (take l.session-index l.sessions))) l.writes
