use Rattle.write_chains.proofs.Prelude.{ℕ, ◌<◌, log_of, NoneCloses}
use Rattle.write_chains.proofs.closed.closed_chain.Given as goal

abbrev pub invariant-loop-key : goal.invariant-loop-key
invariant-loop-key l = (x : ℕ) → x < l.key → NoneCloses (log_of l.history) x
