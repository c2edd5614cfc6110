use Rattle.cube_machine.proofs.Prelude.{◌∙◌, ap, sym, length, arith, false, get_or, slice_get_read, is_open}
use Rattle.cube_machine.proofs.Cubes.{mark_tested, mark_absent}
use Rattle.cube_machine.proofs.tree.Tree.is_open.Goals as goal

pub returns-in-Some : goal.returns-in-Some
returns-in-Some c =
    let xs = c.self.inside.nodes in
    let look = c.in-Some.ensures.lookup in
    let x = c.in-Some.node.now in
    let read = look.1 ∙ ap (λ l. get_or l c.args.id x) c.deref.ensures.value in
    let lt = look.3.0 in let e = ap length c.deref.ensures.value in
    let at = slice_get_read xs.items (length xs.items) c.args.id x (omega arith) (omega (arith, lt, e)) read in
    record { test = rw (← c.self.view_is) (c.is_open.ensures ∙ sym (mark_tested is_open false xs.items c.args.id x at)) }

pub returns-in-None : goal.returns-in-None
returns-in-None c =
    let xs = c.self.inside.nodes in
    let look = c.in-None.ensures.lookup in
    let le = look.3 in let e = ap length c.deref.ensures.value in
    record { test = rw (← c.self.view_is) (sym (mark_absent is_open false xs.items c.args.id (omega (arith, le, e)))) }
