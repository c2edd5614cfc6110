use Rattle.coalesce.proofs.Prelude.{◌≡◌, ◌≤◌, ◌+◌, length, log_of, so_far}
use Rattle.coalesce.proofs.Between.{of_key, triangle}
use Rattle.coalesce.proofs.choices.choice_count.Given as goal

abbrev pub invariant-loop-key : goal.invariant-loop-key
invariant-loop-key l = record {
  few : l.count ≤ 100000;
  count : l.count ≡ length (so_far (of_key (log_of l.chains)) l.key);
}

abbrev pub invariant-loop-before : goal.invariant-loop-before
invariant-loop-before l = record {
  few : l.count ≤ 100000;
  count : l.count ≡ length (so_far (of_key (log_of l.chains)) l.key) + triangle l.before;
}
