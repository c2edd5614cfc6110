use Rattle.cube_machine.proofs.Prelude.{◌<◌, ◌∙◌, subst, sym, ap, length, arith, Growth, nodes_of}
use Rattle.cube_machine.proofs.Cubes.{length_nodes, leaf_pushed}
use Rattle.cube_machine.proofs.Places.{open_few}
use Rattle.cube_machine.proofs.Trees.{tree_grow}
use Rattle.cube_machine.proofs.tree.Tree.grow.Goals as goal

pub push_reserved-requires : goal.push_reserved-requires
push_reserved-requires c =
    let w = subst (λ (s : Growth). length s.nodes < s.room) (sym c.self.view_is) c.requires.room in
    let e = length_nodes c.self.inside.nodes.items in let o = c.self.inside.nodes.ok.0 in omega (arith, w, e, o)

pub push_reserved-requires-2 : goal.push_reserved-requires-2
push_reserved-requires-2 c =
    let w = subst (λ (s : Growth). length s.nodes < s.room) (sym c.self.view_is) c.requires.room in
    let e = length_nodes c.self.inside.nodes.items in let o = c.self.inside.open_nodes.ok.0 in
    let f = open_few 0 c.self.inside.nodes.items in let l = ap length c.self.invariant.0.listed in let r = c.self.invariant.1 in
    omega (arith, w, e, o, f, l, r)

pub invariant_of-self : goal.invariant_of-self
invariant_of-self c =
    let i = c.self.inside in
    let w = subst (λ (s : Growth). c.args.parent < length s.nodes) (sym c.self.view_is) c.requires.within in
    let e = length_nodes i.nodes.items in
    let n = c.len-number.ensures ∙ i.nodes.ok.0 in
    let a = c.push_reserved.ensures.capacity in let b = c.push_reserved-2.ensures.capacity in let r = c.self.invariant.1 in
    (rw (c.push_reserved.ensures.items, c.push_reserved-2.ensures.items, n) (tree_grow i.nodes.items i.open_nodes.items i.held i.solved c.self.invariant.0 c.args.parent c.args.choice c.args.side (omega (arith, w, e))), omega (arith, a, b, r))

pub returns-clause-nodes : goal.returns-clause-nodes
returns-clause-nodes c =
    let i = c.self.inside in
    let w = subst (λ (s : Growth). c.args.parent < length s.nodes) (sym c.self.view_is) c.requires.within in
    let e = length_nodes i.nodes.items in
    rw (← c.self.view_is) (ap nodes_of c.push_reserved.ensures.items ∙ leaf_pushed i.nodes.items c.args.parent c.args.choice c.args.side (omega (arith, w, e)))
