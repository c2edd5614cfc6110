use Rattle.branch_search.proofs.Prelude.{◌∙◌, length, sym, ap, subst, arith, length-set, replay, opening_state, next_of, IsRefutationTree}
use Rattle.branch_search.proofs.Planted.{Standing, standing_step, standing_last}
use Rattle.branch_search.proofs.growing.tree_of.Goals as goal

pub loop-step-preserved : goal.loop-step-preserved
loop-step-preserved c =
    let l = c.loop-step in let x = c.in-Some.step in let g = c.in_ok-grow.ensures in let size = l.invariant.0 in (
      ap length g.held ∙ length-set l.held x.seat _ ∙ size,
      (λ p budget legal.
          (let last = replay next_of (opening_state p budget) c.args.steps.items in
          standing_step p last l.nodes.items c.grow.new.nodes.items l.held c.grow.new.held x c.next.new.self.rest.items size g.seat g.nodes g.held
          (subst (λ r. Standing p last l.nodes.items l.held r) c.in-Some.ensures.steps.0 (l.invariant.1 p budget legal)))),
    )

pub returns : goal.returns
returns c = record {
  tree = λ p budget legal ex.
      (let l = c.loop-step in let rest = l.step-iterator.rest in let n = c.in-None.ensures.steps.0 in let o = rest.ok in
      let last = replay next_of (opening_state p budget) c.args.steps.items in
      subst (IsRefutationTree p) (sym c.from_nodes.ensures.tree)
      (standing_last p last l.nodes.items l.held rest.items (omega arith) ex (l.invariant.1 p budget legal)));
}
