use Rattle.branching.proofs.Prelude.{List, sym, subst, IsOrderByReach}
use Rattle.branching.proofs.Turned.{solve_answered, last_of}
use Rattle.branching.proofs.turns.solution.Goals as goal

pub returns-clause-answered : goal.returns-clause-answered
returns-clause-answered c =
    let v = c.args.view.now in
    let rows = c.rows.result.now in
    solve_answered v rows c.from_nodes.result c.rows.ensures.view (last_of v rows c.rows.ensures.view c.rows.ensures.rows c.requires.acyclic)
    (subst (λ (l : List _). IsOrderByReach rows l) (sym c.from_nodes.ensures.line) c.in_ok-order.ensures.order) c.requires.decided
