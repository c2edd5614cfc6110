use Rattle.std.proofs.Common.{◌≡◌, map, nat_cmp}
use Rattle.std.specs.BTreeSet.{contains}
use Rattle.session_log.specs.Text.{view}
use Rattle.known_outcomes.proofs.Changed.{changed, session_settled}
use Rattle.known_outcomes.proofs.settling.settle_each.Given as goal

abbrev pub invariant-loop-session : goal.invariant-loop-session
invariant-loop-session l = map view l.sessions ≡ changed (session_settled (contains nat_cmp l.taken)) l.session-index (map view l.initial.sessions)
