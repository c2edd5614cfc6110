use Rattle.log_parts.proofs.Prelude.{◌≡◌, map, take, view}
use Rattle.log_parts.proofs.copies.copy_log.Given as goal

abbrev pub invariant-loop-session : goal.invariant-loop-session
invariant-loop-session l = map view l.new.items ≡ map view (take l.session-index l.log)
