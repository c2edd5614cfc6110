use Rattle.write_chains.proofs.Prelude.{take, AreLists, readers_among}
use Rattle.write_chains.proofs.links.readers_of.Given as goal

abbrev pub invariant-loop-reading : goal.invariant-loop-reading
invariant-loop-reading l = AreLists l.count (λ w. readers_among w (take l.reading-index l.readings)) l.lists
