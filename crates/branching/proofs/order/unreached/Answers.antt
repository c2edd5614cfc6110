use Rattle.branching.proofs.Prelude.{◌≡◌, ℕ, ◌+◌, ◌<◌, Bool, not, sym, ap, ◌∙◌, arith, has_edge, known_is}
use Rattle.serializability.proofs.CountedNodes.{counted_yes, counted_no, counted_all}
use Rattle.branching.proofs.order.unreached.Goals as goal
use Rattle.branching.proofs.order.unreached.Goals.{then-not-reaches, else-not-reaches}

pub loop-number-preserved : goal.loop-number-preserved
loop-number-preserved c =
    let rows = c.args.rows.now in
    let n = rows.nodes in
    let p : ℕ → Bool = λ v. not (has_edge rows.edges (c.args.node, v)) in
    let u = c.loop-number.number in
    let within : u < n + 1 = omega (arith, c.loop-number-test.true, c.nodes-number-end.ensures.count) in
    let told : c.reaches.result ≡ has_edge rows.edges (c.args.node, c.node.result) = known_is c.reaches.result rows.edges (c.args.node, c.node.result) c.reaches.ensures.edge.0 c.reaches.ensures.edge.1 in
    let test : not c.reaches.result ≡ p u = ap not told ∙ ap p c.node.ensures.value in
    elim c.if-not-reaches.branch [
      | then-not-reaches w ↦ record {
        so_far = w.count-is ∙ ap (λ k. k + 1) c.loop-number.invariant.so_far ∙ sym (counted_yes p n u within (sym test ∙ ap not w.if-not-reaches.true));
        few = omega (arith, w.count-is, c.loop-number.invariant.few);
      }
      | else-not-reaches w ↦ record {
        so_far = w.count-is ∙ c.loop-number.invariant.so_far ∙ sym (counted_no p n u within (sym test ∙ ap not w.if-not-reaches.false));
        few = omega (arith, w.count-is, c.loop-number.invariant.few);
      }
    ]

pub returns : goal.returns
returns c =
    let rows = c.args.rows.now in
    let p : ℕ → Bool = λ v. not (has_edge rows.edges (c.args.node, v)) in
    record { count = c.loop-number.invariant.so_far ∙ counted_all p rows.nodes c.loop-number.number (omega (arith, c.loop-number-test.false, c.nodes-number-end.ensures.count)) }
