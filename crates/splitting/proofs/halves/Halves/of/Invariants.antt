use Rattle.splitting.proofs.Prelude.{drop, Locks, Fit, AreNamed, ComesTo}
use Rattle.splitting.proofs.halves.Halves.of.Given as goal

abbrev pub invariant-loop-op : goal.invariant-loop-op
invariant-loop-op l =
    ComesTo l.names l.last l.ops l.halves (drop l.op-index l.ops) × Fit l.names l.taken_as (drop l.op-index l.ops)
    × ((locks : Locks) → AreNamed locks l.names l.last l.ops → AreNamed locks l.names l.taken_as (drop l.op-index l.ops))
