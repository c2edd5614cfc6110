use Rattle.session_history.proofs.Prelude.{◌≡◌, [], first_seen}
use Rattle.session_history.proofs.key_set.indexed.Given as goal

abbrev pub invariant-loop-text : goal.invariant-loop-text
invariant-loop-text l = l.keys.keys ≡ first_seen [] l.yielded
