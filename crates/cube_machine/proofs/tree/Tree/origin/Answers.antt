use Rattle.cube_machine.proofs.Prelude.{◌<◌, subst, sym, length, arith, slice_get_read, Growth}
use Rattle.cube_machine.proofs.Cubes.{length_nodes, is_way, root_way}
use Rattle.cube_machine.proofs.tree.Tree.origin.Goals as goal

pub index-requires : goal.index-requires
index-requires c =
    let w = subst (λ (s : Growth). c.args.id < length s.nodes) (sym c.self.view_is) c.requires.within in
    let e = length_nodes c.self.inside.nodes.items in let o = c.self.inside.nodes.ok.0 in omega (arith, w, e, o)

pub returns-clause-way : goal.returns-clause-way
returns-clause-way c =
    let xs = c.self.inside.nodes in
    let w = subst (λ (s : Growth). c.args.id < length s.nodes) (sym c.self.view_is) c.requires.within in
    let e = length_nodes xs.items in let o = xs.ok.0 in
    let at = slice_get_read xs.items xs.len c.args.id c.index.result.now o (omega (arith, w, e, o)) c.index.ensures in
    rw (← c.self.view_is) (is_way xs.items c.args.id c.index.result.now at (λ p f. c.self.invariant.0.ordered c.args.id c.index.result.now p at f))

pub returns-clause-root : goal.returns-clause-root
returns-clause-root c =
    let xs = c.self.inside.nodes in
    let w = subst (λ (s : Growth). c.args.id < length s.nodes) (sym c.self.view_is) c.requires.within in
    let e = length_nodes xs.items in
    rw (← c.self.view_is) (root_way xs.items c.index.result.now (omega (arith, w, e)) (λ x p at f. c.self.invariant.0.ordered 0 x p at f))
