use Rattle.session_history.proofs.Prelude.{◌≡◌, ◌==◌, ℕ, None, [], ◌+◌, map, take, length, nat_cmp, list_any, contains, view, log_lines, repeated, sessions_from}
use Rattle.session_history.proofs.scan.session_twice.Given as goal

abbrev pub invariant-loop-session : goal.invariant-loop-session
invariant-loop-session l = record {
  none : repeated [] (sessions_from l.first (log_lines (map view (take l.session-index l.sessions)))) ≡ None;
  seen : (q : ℕ) → contains nat_cmp l.seen q ≡ list_any (λ p. q == p.1) (sessions_from l.first (log_lines (map view (take l.session-index l.sessions))));
  line : l.line ≡ l.first + length (log_lines (map view (take l.session-index l.sessions)));
}
