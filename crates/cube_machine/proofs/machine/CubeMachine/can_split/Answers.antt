use Rattle.cube_machine.proofs.Prelude.{◌<◌, not, ◌&&◌, length, Some, ◌∙◌, sym, ap, arith, lt-ltb, slice_get-get_or, is_decided, cube_in, is_flagged, is_odd}
use Rattle.cube_machine.proofs.Flags.{flagged_is}
use Rattle.cube_machine.proofs.machine.CubeMachine.can_split.Goals as goal

pub returns-clause-split : goal.returns-clause-split
returns-clause-split c =
    let i = c.self.inside in let nodes = i.tree.nodes in let table = i.decided.items in
    let k = c.from.result in let old = c.index_mut-decided.result.now in let now = c.go_to.new.self in
    let choice = c.args.choice in let cube = cube_in nodes c.args.id in let choices = i.polygraph.now.choices in
    let seats = c.self.invariant.seats in let r = c.get.ensures.range in let f = c.from.ensures in
    let at = slice_get-get_or table k old (omega (arith, seats, r, f)) ∙ ap (λ d. Some d) (sym c.index_mut-decided.ensures.value) in
    let n = c.go_to.ensures.count ∙ c.self.invariant.noted.wide k old at in
    let few = ap length c.choices.ensures.choices in let number = c.get-number.ensures.value in
    let within : choice < length choices = omega (arith, few, number, c.if-number-choices.false) in
    let lt : choice < length now.flags.items = omega (arith, within, n) in
    rw (← c.self.view_is)
    (ap not (c.decides.ensures.decides ∙ ap (λ v. is_flagged now.flags.items v) number
    ∙ flagged_is now.flags.items cube choice (c.self.invariant.once.each c.args.id) (λ side. c.go_to.ensures.noted.each choice side lt ∙ ap (λ id. is_odd (cube_in nodes id) choice side) c.go_to.ensures.node))
    ∙ ap (λ b. b && not (is_decided cube choice)) (sym (lt-ltb choice (length choices) within)))
