use Rattle.judging.proofs.Prelude.{◌≡◌, ◌++◌, drop, flags_view}
use Rattle.judging.proofs.flags.copy_flags.Given as goal

abbrev pub invariant-loop-list : goal.invariant-loop-list
invariant-loop-list l = flags_view l.copy.items ++ flags_view (drop l.list-index l.flags) ≡ flags_view l.flags
