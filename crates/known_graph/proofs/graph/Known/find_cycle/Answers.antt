use Rattle.known_graph.proofs.Prelude.{sym, ◌∙◌, arith, Reaches, IsWalk}
use Rattle.known_graph.proofs.Walked.{cycle_within, where_none, no_cycle_more}
use Rattle.known_graph.proofs.graph.Known.find_cycle.Goals as goal

pub returns : goal.returns
returns c = record {
  cycle = λ k. (let below = cycle_within c.args.self.now c.nodes-number-end.ensures.graph k in c.loop-number.invariant k.0 (omega (arith, below, c.loop-number-test.false, c.nodes-number-end.ensures.count)) k.1);
}

pub loop-number-preserved : goal.loop-number-preserved
loop-number-preserved c =
    let g = c.args.self.now in
    let v = c.node-v.result in
    no_cycle_more g c.loop-number.number v c.node-v.ensures.value
    (where_none c.in_ok-line.line (Reaches g.edges v v → ⊥) (λ line. IsWalk g.edges v v line.items) (sym c.is_some.ensures ∙ c.if-is_some.false) c.in_ok-line.ensures.walk) c.loop-number.invariant
