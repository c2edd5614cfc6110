use Rattle.cube_machine.proofs.Prelude.{◌∙◌, ◌&&◌, sym, ap, State, edges_under, cube_at, decides_all, is_solution, lists_once, keeps_edges, cube_in}
use Rattle.cube_machine.proofs.Orders.{keeps_same}
use Rattle.cube_machine.proofs.machine.CubeMachine.is_solution_at.Goals as goal

pub returns-clause-solution : goal.returns-clause-solution
returns-clause-solution c =
    let i = c.self.inside in let p = i.polygraph.now in let order = c.args.order.now in let cube = cube_in i.tree.nodes c.args.id in
    let s = c.self.view_is ∙ c.decides_all.ensures.same in
    let all = ap (λ (s : State). decides_all s.polygraph (cube_at s c.args.id)) s ∙ sym c.decides_all.ensures.all ∙ c.if-not-decides_all.false in
    c.fits_graph.ensures
    ∙ (λ j. lists_once (c.fill.ensures.nodes j) order && keeps_same order c.fill.new.graph.edges (edges_under p cube) c.fill.ensures.edges j)
    ∙ ap (λ b. b && (lists_once p.nodes order && keeps_edges order (edges_under p cube))) (sym all)
    ∙ ap (λ (s : State). is_solution s.polygraph (cube_at s c.args.id) order) s
