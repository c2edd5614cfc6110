use Rattle.session_history.proofs.Prelude.{◌+◌, ◌<◌, ◌≤◌, ◌^◌, map, take, drop, length, count_by, nat_cmp, view, contains, is_committed, txns_in, settled, log_lines, FindsEach, Takes, placed_in}
use Rattle.session_history.proofs.nodes.Transactions.of.Given as goal

abbrev pub invariant-loop-session : goal.invariant-loop-session
invariant-loop-session l = record {
  finds : FindsEach l.all.numbers;
  taken : Takes l.initial.all l.all (log_lines (map view (take l.session-index l.sessions))) (placed_in (settled (contains nat_cmp l.taken) (map view (take l.session-index l.sessions))));
  room : l.all.writes.line + length (log_lines (map view (drop l.session-index l.sessions))) < 2 ^ 64;
  few : length l.all.nodes.items + count_by is_committed (txns_in (settled (contains nat_cmp l.taken) (map view (drop l.session-index l.sessions)))) ≤ 1000;
}
