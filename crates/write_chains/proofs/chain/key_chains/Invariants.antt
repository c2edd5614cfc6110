use Rattle.write_chains.proofs.Prelude.{◌≡◌, take, map, filter, log_of, chain_view, chain_from}
use Rattle.write_chains.proofs.Heads.{reads_nothing}
use Rattle.write_chains.proofs.chain.key_chains.Given as goal

abbrev pub invariant-loop-writer : goal.invariant-loop-writer
invariant-loop-writer l = map chain_view l.others.items ≡ map (chain_from (log_of l.history) l.key) (filter (reads_nothing (log_of l.history) l.key) (take l.writer-index l.writer-items))
