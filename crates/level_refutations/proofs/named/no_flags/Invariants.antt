use Rattle.level_refutations.proofs.Prelude.{◌≡◌, length}
use Rattle.level_refutations.proofs.named.no_flags.Given as goal

abbrev pub invariant-loop-session : goal.invariant-loop-session
invariant-loop-session l = length l.rows.items ≡ l.session-index
