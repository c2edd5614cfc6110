use Rattle.order_cnf.proofs.Prelude.{◌*◌}
use Rattle.order_cnf.proofs.Skipped.{NoneTo}
use Rattle.order_cnf.proofs.triples.next_open.Given as goal

abbrev pub invariant-loop-place : goal.invariant-loop-place
invariant-loop-place l = NoneTo l.relation l.i l.j l.from (l.place * 64)
