use Rattle.known_graph.proofs.Prelude.{◌≡◌, ◌↔◌, ◌<◌, ◌≤◌, ◌∙◌, subst, arith, Contains, log_of, Edge}
use Rattle.known_graph.proofs.ArcSets.{arcs_none, arcs_more, arcs_all}
use Rattle.known_graph.proofs.graph.Known.of.Goals as goal

pub loop-number-init : goal.loop-number-init
loop-number-init c =
    let count = c.committed-nodes.ensures.count in
    arcs_none (log_of c.args.history.now) c.in_ok-known.known (c.in_ok-known.ensures.nodes ∙ count) c.in_ok-known.ensures.graph
    (subst (λ n. (e : Edge) → (Contains c.in_ok-known.known.edges e ↔ ((e.0 ≡ 0) × (0 < e.1) × (e.1 ≤ n)))) count c.in_ok-known.ensures.edges)

pub loop-number-preserved : goal.loop-number-preserved
loop-number-preserved c =
    arcs_more (log_of c.args.history.now) c.node-v.result c.loop-number.number c.loop-number.known c.add_session_arc.new.known c.add_read_arcs.new.known c.add_moment_arcs.new.known (omega arith) c.node-v.ensures.value c.loop-number.invariant
    c.add_session_arc.ensures.nodes c.add_read_arcs.ensures.nodes c.add_moment_arcs.ensures.nodes c.add_moment_arcs.ensures.graph c.add_session_arc.ensures.edges c.add_read_arcs.ensures.edges c.add_moment_arcs.ensures.edges

pub returns : goal.returns
returns c = record {
  arcs = arcs_all (log_of c.args.history.now) c.loop-number.number c.loop-number.known (omega (arith, c.committed-nodes.ensures.count, c.loop-number-test.false)) c.loop-number.invariant;
}
