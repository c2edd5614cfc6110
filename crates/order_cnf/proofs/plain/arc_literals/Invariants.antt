use Rattle.order_cnf.proofs.Prelude.{◌≡◌, take, map, edge_literal, pairs_in}
use Rattle.order_cnf.proofs.plain.arc_literals.Given as goal

abbrev pub invariant-loop-arc : goal.invariant-loop-arc
invariant-loop-arc l = l.literals.items ≡ map (λ e. edge_literal (pairs_in l.relation) e.0 e.1) (take l.arc-index l.arcs)
