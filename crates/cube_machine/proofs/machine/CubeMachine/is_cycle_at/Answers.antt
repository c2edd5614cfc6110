use Rattle.cube_machine.proofs.Prelude.{◌≡◌, Some, refl, ◌∙◌, sym, ap, arith, slice_get-get_or, Graph, cube_in, is_odd, is_among, is_cycle_by}
use Rattle.cube_machine.proofs.Flags.{odd_once}
use Rattle.cube_machine.proofs.Listed.{cycle_under}
use Rattle.cube_machine.proofs.Kept.{kept_went}
use Rattle.cube_machine.proofs.machine.CubeMachine.is_cycle_at.Goals as goal

pub invariant_of-self : goal.invariant_of-self
invariant_of-self c =
    let i = c.self.inside in let table = i.decided.items in
    let k = c.from.result in let old = c.index_mut-decided.result.now in
    let seats = c.self.invariant.seats in let r = c.get.ensures.range in let f = c.from.ensures in
    let at = slice_get-get_or table k old (omega (arith, seats, r, f)) ∙ ap (λ d. Some d) (sym c.index_mut-decided.ensures.value) in
    kept_went i.polygraph.now i.tree i.closed i.budget i.graph i.sides.items table k old c.go_to.new.self c.self.invariant at c.go_to.ensures.noted c.go_to.ensures.count

pub returns-clause-cycle : goal.returns-clause-cycle
returns-clause-cycle c =
    let i = c.self.inside in let nodes = i.tree.nodes in let table = i.decided.items in let p = i.polygraph.now in let line = c.args.line.now in
    let k = c.from.result in let old = c.index_mut-decided.result.now in let now = c.go_to.new.self in
    let cube = cube_in nodes c.args.id in
    let seats = c.self.invariant.seats in let r = c.get.ensures.range in let f = c.from.ensures in
    let at = slice_get-get_or table k old (omega (arith, seats, r, f)) ∙ ap (λ d. Some d) (sym c.index_mut-decided.ensures.value) in
    let n = c.go_to.ensures.count ∙ c.self.invariant.noted.wide k old at in
    let known : c.known.result.now.edges ≡ p.known = ap (λ (g : Graph). g.edges) c.known.ensures in
    rw (← c.self.view_is)
    (c.is_cycle.ensures.cycle
    ∙ (λ j. is_cycle_by (is_among (known j) (c.deref.ensures.value j) (c.deref-2.ensures.value j)) line)
    ∙ cycle_under p cube p.known i.sides.items now.flags.items line refl c.self.invariant.listed
    (λ v side lt. c.go_to.ensures.noted.each v side (omega (arith, lt, n)) ∙ ap (λ id. is_odd (cube_in nodes id) v side) c.go_to.ensures.node ∙ odd_once cube v side (c.self.invariant.once.each c.args.id)))
