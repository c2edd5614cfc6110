use Rattle.cube_machine.proofs.Prelude.{◌∙◌, ◌++◌, ◌∷◌, [], refl, ap, arith, nodes_of, nodes_with, cubes_after}
use Rattle.cube_machine.proofs.Trees.{tree_root, first}
use Rattle.cube_machine.proofs.tree.Tree.root.Goals as goal

pub invariant_of-result : goal.invariant_of-result
invariant_of-result c =
    let a = c.push_reserved.ensures.items ∙ ap (λ l. l ++ first ∷ []) c.in_ok-nodes.ensures.items in
    let b = c.push_reserved-2.ensures.items ∙ ap (λ l. l ++ 0 ∷ []) c.in_ok-open_nodes.ensures.items in
    let p = c.push_reserved.ensures.capacity in let q = c.push_reserved-2.ensures.capacity in
    let x = c.in_ok-nodes.ensures.exact in let y = c.in_ok-open_nodes.ensures.exact in
    (rw (a, b) (tree_root _ refl), omega (arith, p, q, x, y))

pub returns-clause-nodes : goal.returns-clause-nodes
unfolding nodes_of nodes_with cubes_after
returns-clause-nodes c = ap nodes_of (c.push_reserved.ensures.items ∙ ap (λ l. l ++ first ∷ []) c.in_ok-nodes.ensures.items)
