use Rattle.decode_order.proofs.Prelude.{◌≡◌, ◌+◌, ◌<◌, ◌∙◌, Bool, ℕ, ap, sym, arith, before, IsOrder, rank, rank-pos, rank-le, cnf_of}
use Rattle.serializability.proofs.CountedNodes.{counted_yes, counted_no, counted_all}
use Rattle.decode_order.proofs.decode.nodes_before.Goals as goal
use Rattle.decode_order.proofs.decode.nodes_before.Goals.{then-stands_before, else-stands_before}

pub loop-number-preserved : goal.loop-number-preserved
loop-number-preserved c =
    let n = c.args.formula.now.nodes in
    let p : ℕ → Bool = λ u. before (cnf_of c.args.formula.now) c.args.values.now u c.args.node in
    let u = c.loop-number.number in
    let within : u < n + 1 = omega (arith, c.loop-number-test.true, c.nodes-number-end.ensures.count) in
    let test : c.stands_before.result ≡ p u = c.stands_before.ensures.value ∙ ap p c.node.ensures.value in
    elim c.if-stands_before.branch [
      | then-stands_before w ↦ record {
        so_far = w.count-is ∙ ap (λ k. k + 1) c.loop-number.invariant.so_far ∙ sym (counted_yes p n u within (sym test ∙ w.if-stands_before.true));
        few = omega (arith, w.count-is, c.loop-number.invariant.few);
      }
      | else-stands_before w ↦ record {
        so_far = w.count-is ∙ c.loop-number.invariant.so_far ∙ sym (counted_no p n u within (sym test ∙ w.if-stands_before.false));
        few = omega (arith, w.count-is, c.loop-number.invariant.few);
      }
    ]

pub returns : goal.returns
returns c =
    let n = c.args.formula.now.nodes in
    let r : ℕ → ℕ → Bool = before (cnf_of c.args.formula.now) c.args.values.now in
    let o : IsOrder n r = c.nodes-number-end.ensures.sound.orders c.args.values.now c.requires.satisfied in
    let v = c.args.node in
    let all : c.loop-number.count ≡ rank n r v = c.loop-number.invariant.so_far
    ∙ counted_all _ n c.loop-number.number (omega (arith, c.loop-number-test.false, c.nodes-number-end.ensures.count)) in
    record {
      count = all;
      within = (omega (arith, all, rank-pos n r o v c.requires.within.0 c.requires.within.1), omega (arith, all, rank-le n r o v c.requires.within.1));
    }
