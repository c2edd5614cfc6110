use Rattle.tree_checks.proofs.Prelude.{◌∙◌, sym, cases_lt}
use Rattle.tree_checks.proofs.Inherited.{decided_here, decided_up, decided_top, decided_past}
use Rattle.tree_checks.proofs.checking.is_decided.Goals as goal

pub returns-then-decides : goal.returns-then-decides
returns-then-decides c =
    let x = c.in-Some.node.now in
    sym (sym c.loop-node.invariant ∙ decided_here c.args.nodes.now c.loop-node.at x c.args.choice (sym c.in-Some.ensures) (sym c.decides.ensures ∙ c.if-decides.true) (cases_lt x.parent c.loop-node.at))

pub returns-then-node-at : goal.returns-then-node-at
returns-then-node-at c =
    sym (sym c.loop-node.invariant ∙ decided_top c.args.nodes.now c.loop-node.at c.in-Some.node.now c.args.choice (sym c.in-Some.ensures) (sym c.decides.ensures ∙ c.if-decides.false) c.if-node-at.true)

pub loop-node-preserved : goal.loop-node-preserved
loop-node-preserved c =
    sym (decided_up c.args.nodes.now c.loop-node.at c.in-Some.node.now c.args.choice (sym c.in-Some.ensures) (sym c.decides.ensures ∙ c.if-decides.false) c.if-node-at.false)
    ∙ c.loop-node.invariant

pub returns : goal.returns
returns c = sym (sym c.loop-node.invariant ∙ decided_past c.args.nodes.now c.loop-node.at c.args.choice (sym c.in_default.ensures))
