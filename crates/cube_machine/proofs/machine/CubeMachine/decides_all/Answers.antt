use Rattle.cube_machine.proofs.Prelude.{◌≡◌, ℕ, ◌+◌, ◌<◌, ◌||◌, length, Some, ◌∙◌, sym, ap, arith, list_all, range_with_len, slice_get-get_or, Side, is_decided, is_odd, SideFlags, cube_in}
use Rattle.cube_machine.proofs.Flags.{flagged_is}
use Rattle.cube_machine.proofs.Orders.{all_noted}
use Rattle.cube_machine.proofs.machine.CubeMachine.decides_all.Goals as goal

pub returns-clause-all : goal.returns-clause-all
returns-clause-all c =
    let i = c.self.inside in let nodes = i.tree.nodes in let table = i.decided.items in
    let k = c.from.result in let old = c.index_mut-decided.result.now in let now = c.go_to.new.self in
    let t = is_decided (cube_in nodes c.args.id) in
    let seats = c.self.invariant.seats in let r = c.get.ensures.range in let f = c.from.ensures in
    let at = slice_get-get_or table k old (omega (arith, seats, r, f)) ∙ ap (λ d. Some d) (sym c.index_mut-decided.ensures.value) in
    let n = c.go_to.ensures.count ∙ c.self.invariant.noted.wide k old at in
    let each = λ (v : ℕ) (side : Side) (lt : v < length now.flags.items). c.go_to.ensures.noted.each v side lt ∙ ap (λ id. is_odd (cube_in nodes id) v side) c.go_to.ensures.node in
    rw (← c.self.view_is)
    (c.all.ensures
    ∙ all_noted (λ (f : SideFlags). f.one || f.two) t 0 now.flags.items (λ v lt. (let z : v ≡ 0 + v = omega arith in flagged_is now.flags.items (cube_in nodes c.args.id) v (c.self.invariant.once.each c.args.id) (λ side. each v side lt) ∙ ap t z))
    ∙ ap (λ m. list_all t (range_with_len 0 m)) n)
