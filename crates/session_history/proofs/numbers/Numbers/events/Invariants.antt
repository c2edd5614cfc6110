use Rattle.session_history.proofs.Prelude.{◌≡◌, ℕ, List, map, take, first_seen, key_of, events_of, FindsEach}
use Rattle.session_history.proofs.numbers.Numbers.events.Given as goal

abbrev pub invariant-loop-op : goal.invariant-loop-op
invariant-loop-op l = record {
  finds : FindsEach l.self;
  keys : l.self.texts.items ≡ first_seen l.initial.self.texts.items (map key_of (take l.op-index l.ops));
  events : (later : List (List ℕ)) → l.events.items ≡ events_of (first_seen l.self.texts.items later) (take l.op-index l.ops);
}
