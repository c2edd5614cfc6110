use Rattle.reasons.proofs.Prelude.{take, get, pair_cmp, triple_cmp}
use Rattle.reasons.proofs.Squares.{IsMet}
use Rattle.reasons.proofs.crossed.square_with.Given as goal

abbrev pub invariant-loop-pair : goal.invariant-loop-pair
invariant-loop-pair l = IsMet l.pairs (get triple_cmp l.readers) l.version (take l.pair-index l.pairs) (get pair_cmp l.met)
