use Rattle.tree_checks.proofs.Prelude.{◌∙◌, sym, subst, IsRefutationTree}
use Rattle.tree_checks.proofs.Checked.{tree_checked, all_from, none_fits}
use Rattle.tree_checks.proofs.checking.check_tree.Goals as goal

pub returns-then-not-is_empty-clause-tree : goal.returns-then-not-is_empty-clause-tree
returns-then-not-is_empty-clause-tree c =
    let p = c.args.polygraph.now in let nodes = c.nodes-nodes.result.now in let same = c.nodes-nodes.ensures.nodes in
    let some = sym c.is_empty.ensures ∙ c.if-not-is_empty.true in (
      (λ t. subst (IsRefutationTree p) same (tree_checked p nodes some (c.are_sound.ensures.all t))),
      (λ k. c.are_sound.ensures.each (all_from p nodes (subst (IsRefutationTree p) (sym same) k))),
    )

pub returns-then-not-is_empty-clause-none : goal.returns-then-not-is_empty-clause-none
returns-then-not-is_empty-clause-none c =
    let p = c.args.polygraph.now in let nodes = c.nodes-nodes.result.now in
    let some = sym c.is_empty.ensures ∙ c.if-not-is_empty.true in
    λ t order fits. none_fits p nodes (tree_checked p nodes some (c.are_sound.ensures.all t)) order fits
