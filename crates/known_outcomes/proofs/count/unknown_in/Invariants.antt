use Rattle.std.proofs.Common.{◌≡◌, ◌≤◌, map, take, count_by}
use Rattle.session_log.specs.Text.{view}
use Rattle.log_definitions.specs.Unknown.{is_unknown, txns_in}
use Rattle.known_outcomes.proofs.count.unknown_in.Given as goal

abbrev pub invariant-loop-session : goal.invariant-loop-session
invariant-loop-session l = record {
  is : l.count ≡ count_by is_unknown (txns_in (map view (take l.session-index l.sessions)));
  few : l.count ≤ l.session-index;
}
