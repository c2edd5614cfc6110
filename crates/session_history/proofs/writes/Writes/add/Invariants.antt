use Rattle.session_history.proofs.Prelude.{◌≡◌, ℕ, ◌+◌, ◌++◌, List, [], take, Event, HasSeen, writes_at}
use Rattle.session_history.specs.Written.{IsTaking}
use Rattle.session_history.proofs.writes.Writes.add.Given as goal

abbrev pub invariant-loop-event : goal.invariant-loop-event
invariant-loop-event l = record {
  line : l.self.line ≡ l.initial.self.line + l.event-index;
  seen : (lines : List (ℕ × ℕ)) → HasSeen lines l.initial.self → HasSeen (lines ++ writes_at l.initial.self.line (take l.event-index l.events)) l.self;
  taking : (txns : List (ℕ × List Event)) → IsTaking txns l.node l.events [] l.initial.self → IsTaking txns l.node l.events (take l.event-index l.events) l.self;
}
