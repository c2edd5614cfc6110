use Rattle.branching.proofs.Prelude.{◌≡◌, ◌⊎◌, ◌↔◌, ◌+◌, sym, ◌∙◌, subst, Contains, take_all, Edge, added_step}
use Rattle.prune_ledger.proofs.KeptUp.{adds_from_added, added_rows}
use Rattle.branching.proofs.view.add_edges.Goals as goal

pub loop-edge-preserved : goal.loop-edge-preserved
loop-edge-preserved c =
    let old = c.loop-edge.graph in
    let new = c.add_edge-in-loop-edge.new.self in
    let u = c.source.result in
    let v = c.target.result in
    let nodes = c.add_edge-in-loop-edge.ensures.nodes in
    let more = c.add_edge-in-loop-edge.ensures.edges in
    record {
      edges = added_step c.args.graph.now old new c.args.edges.now c.loop-edge.edge-index c.edge-item.result u v c.loop-edge-test.true c.edge-item.is c.source.ensures c.target.ensures c.loop-edge.invariant.edges nodes more;
      rows = added_rows c.loop-edge.rows c.add_edge-in-loop-edge-2.new.self old new u v c.source-in-loop-edge.result c.target-in-loop-edge.result
          c.loop-edge.invariant.rows (c.source.ensures ∙ sym c.source-in-loop-edge.ensures) (c.target.ensures ∙ sym c.target-in-loop-edge.ensures) c.add_edge-in-loop-edge-2.ensures.rows nodes more;
      lists = c.add_edge.ensures.lists (c.args.graph.now.nodes + 1) c.loop-edge.invariant.lists;
      marks = λ n choices sides count before.
          c.add_edge.ensures.adds.each n choices sides old new count c.loop-edge.invariant.rows
          (subst (λ (e : Edge). (x : Edge) → (Contains new.edges x ↔ (Contains old.edges x ⊎ (x ≡ e)))) (λ i. (c.source.ensures i, c.target.ensures i)) more)
          (c.loop-edge.invariant.marks n choices sides count before);
    }

pub returns-clause-edges : goal.returns-clause-edges
returns-clause-edges c = adds_from_added c.args.graph.now c.loop-edge.graph _ c.args.edges.now c.loop-edge.invariant.edges (take_all c.loop-edge.edge-index c.args.edges.now c.loop-edge-test.false)
