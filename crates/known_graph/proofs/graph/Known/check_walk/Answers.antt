use Rattle.known_graph.proofs.Prelude.{◌≤◌, length, sym, ◌∙◌, arith, false≢true, le-leb, leb-true}
use Rattle.known_graph.proofs.Lines.{walk_from_steps, steps_from_walk, steps_more, step_read}
use Rattle.known_graph.proofs.graph.Known.check_walk.Goals as goal

pub returns-then-not-has_edge : goal.returns-then-not-has_edge
returns-then-not-has_edge c = record {
  walk = (
    λ e. absurd (false≢true e),
    λ w. absurd (false≢true (sym c.if-not-has_edge.true ∙ c.has_edge.ensures.edge.1
        (step_read c.args.self.now.edges c.args.line.now c.loop-i.i c.index-line-i.result c.index-line-i-in-loop-i.result (omega arith) c.loop-i-test.true c.index-line-i.is c.index-line-i-in-loop-i.is
        (steps_from_walk c.args.self.now.edges w.0 w.1 c.args.line.now w.2)))),
  );
}

pub loop-i-preserved : goal.loop-i-preserved
loop-i-preserved c =
    steps_more c.args.self.now.edges c.args.line.now c.loop-i.i c.index-line-i.result c.index-line-i-in-loop-i.result (omega arith) c.loop-i-test.true c.index-line-i.is c.index-line-i-in-loop-i.is
    (c.has_edge.ensures.edge.0 c.if-not-has_edge.false) c.loop-i.invariant

pub returns : goal.returns
returns c =
    let line = c.args.line.now in
    let end : length line ≤ c.loop-i.i = omega arith in
    record {
      walk = (
        λ t. walk_from_steps c.args.self.now.edges line (record { long = leb-true 2 (length line) t; steps = λ k h. c.loop-i.invariant k (omega (arith, end, h)) }),
        λ w. le-leb 2 (length line) (steps_from_walk c.args.self.now.edges w.0 w.1 line w.2).long,
      );
    }
