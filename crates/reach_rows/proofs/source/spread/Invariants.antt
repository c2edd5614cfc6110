use Rattle.reach_rows.proofs.Prelude.{◌+◌, bit_of}
use Rattle.known_graph.specs.Groups.{left_of}
use Rattle.reach_rows.proofs.Spreading.{IsSpreading}
use Rattle.reach_rows.proofs.source.spread.Given as goal

abbrev pub invariant-loop-number : goal.invariant-loop-number
invariant-loop-number l = IsSpreading l.known l.initial.row l.row l.done

abbrev pub decreases-loop-number : goal.decreases-loop-number
decreases-loop-number l = left_of (bit_of l.done) (l.known.nodes + 1)
