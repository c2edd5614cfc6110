use Rattle.tree_checks.proofs.Prelude.{◌∙◌, sym, cases_lt}
use Rattle.tree_checks.proofs.Inherited.{edge_here, edge_up, edge_top, edge_past}
use Rattle.tree_checks.proofs.checking.is_added.Goals as goal

pub returns-then-adds : goal.returns-then-adds
returns-then-adds c =
    let x = c.in-Some.node.now in
    sym (sym c.loop-node.invariant ∙ edge_here c.args.polygraph.now c.args.nodes.now c.loop-node.at x (c.args.u, c.args.v) (sym c.in-Some.ensures) (sym c.adds.ensures ∙ c.if-adds.true) (cases_lt x.parent c.loop-node.at))

pub returns-then-node-at : goal.returns-then-node-at
returns-then-node-at c =
    sym (sym c.loop-node.invariant ∙ edge_top c.args.polygraph.now c.args.nodes.now c.loop-node.at c.in-Some.node.now (c.args.u, c.args.v) (sym c.in-Some.ensures) (sym c.adds.ensures ∙ c.if-adds.false) c.if-node-at.true)

pub loop-node-preserved : goal.loop-node-preserved
loop-node-preserved c =
    sym (edge_up c.args.polygraph.now c.args.nodes.now c.loop-node.at c.in-Some.node.now (c.args.u, c.args.v) (sym c.in-Some.ensures) (sym c.adds.ensures ∙ c.if-adds.false) c.if-node-at.false)
    ∙ c.loop-node.invariant

pub returns : goal.returns
returns c = sym (sym c.loop-node.invariant ∙ edge_past c.args.polygraph.now c.args.nodes.now c.loop-node.at (c.args.u, c.args.v) (sym c.in_default.ensures))
