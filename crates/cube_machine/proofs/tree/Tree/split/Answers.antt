use Rattle.cube_machine.proofs.Prelude.{◌∙◌, ◌++◌, ◌∷◌, [], List, length, ap, arith, length_push, One, Two, Node, with_mark, child, Split as Divided, cube_in}
use Rattle.cube_machine.proofs.Splits.{held_within, length_marked, cube_marked, two_more}
use Rattle.cube_machine.proofs.tree.Tree.split.Goals as goal

pub grow-requires-clause-within : goal.grow-requires-clause-within
grow-requires-clause-within c =
    let w = held_within c.args.self.now.nodes c.args.seat c.args.id c.requires.held in
    let e = ap length c.close.ensures.nodes in
    let l = length_marked c.args.self.now.nodes c.args.id (Divided c.args.choice) in omega (arith, w, e, l)

pub grow-requires-2-clause-within : goal.grow-requires-2-clause-within
grow-requires-2-clause-within c =
    let w = held_within c.args.self.now.nodes c.args.seat c.args.id c.requires.held in
    let e = ap length c.close.ensures.nodes in
    let l = length_marked c.args.self.now.nodes c.args.id (Divided c.args.choice) in
    let g = ap length c.grow.ensures.nodes in
    let p = length_push c.close.new.self.nodes (child c.args.id (cube_in c.close.new.self.nodes c.args.id) c.args.choice One) in
    omega (arith, w, e, l, g, p)

pub returns-clause-nodes : goal.returns-clause-nodes
returns-clause-nodes c =
    let nodes = c.args.self.now.nodes in let id = c.args.id in let k = c.args.choice in
    let marked = with_mark nodes id (Divided k) in
    let w = held_within nodes c.args.seat id c.requires.held in
    let l = length_marked nodes id (Divided k) in
    let a = c.close.ensures.nodes in
    let b = c.grow.ensures.nodes ∙ ap (λ (m : List Node). m ++ child id (cube_in m id) k One ∷ []) a in
    c.grow-2.ensures.nodes ∙ ap (λ (m : List Node). m ++ child id (cube_in m id) k Two ∷ []) b
    ∙ two_more nodes marked id k (omega (arith, w, l)) (cube_marked nodes id (Divided k))
