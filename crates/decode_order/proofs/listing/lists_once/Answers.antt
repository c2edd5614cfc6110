use Rattle.decode_order.proofs.Prelude.{◌≡◌, ◌<◌, ◌≤◌, ◌∙◌, false, length, get_or, sym, subst, arith, rules, false≢true, get_or_read, take_all, Apart, Has, log_of, once_length, once_from, not_once_outside}
use Rattle.decode_order.proofs.Marks.{not_once_twice, once_more}
use Rattle.decode_order.proofs.listing.lists_once.Goals as goal
use Rattle.decode_order.proofs.listing.lists_once.Goals.{then-number-eq0-via-then-number-eq0, then-number-eq0-via-else-number-eq0+then-number-n, then-number-eq0-via-else-number-eq0+else-number-n+then-index}

pub returns-then-order-n : goal.returns-then-order-n
returns-then-order-n c =
    let n = (log_of c.args.history.now).nodes in
    record {
      answer = (λ f. absurd (false≢true f), λ once. absurd (c.if-order-n.true (once_length n c.args.order.now once ∙ sym c.committed-n.ensures.count)));
    }

pub loop-node-preserved : goal.loop-node-preserved
loop-node-preserved c =
    let n = (log_of c.args.history.now).nodes in
    let order = c.args.order.now in
    let i = c.loop-node.node-index in
    let v = c.get-number.result in
    let marks = c.loop-node.listed.items in
    let at : get_or order i v ≡ v = subst (λ w. get_or order i w ≡ w) (sym c.get-number.ensures.value) (sym c.node-item.is) in
    let hi : v ≤ n = omega (arith, c.if-number-n.false, c.committed-n.ensures.count) in
    let room : v < length marks = omega (arith, c.loop-node.invariant.front.room, hi) in
    let new = sym (get_or_read marks v _ room c.index.ensures false) ∙ c.if-index.false in
    once_more n order i v marks c.loop-node-test.true at (omega (arith, c.if-number-eq0.false)) hi new c.loop-node.invariant

pub returns-then-number-eq0 : goal.returns-then-number-eq0
returns-then-number-eq0 c =
    let n = (log_of c.args.history.now).nodes in
    let order = c.args.order.now in
    let i = c.loop-node.node-index in
    let v = c.get-number.result in
    let lt = c.loop-node-test.true in
    let count = c.committed-n.ensures.count in
    let at : get_or order i v ≡ v = subst (λ w. get_or order i w ≡ w) (sym c.get-number.ensures.value) (sym c.node-item.is) in
    record {
      answer = (
        λ f. absurd (false≢true f),
        λ once. absurd (elim c.then-number-eq0.branch [
          | then-number-eq0-via-then-number-eq0 w ↦ not_once_outside n order i v lt at (λ lo hi. omega (arith, lo, w.if-number-eq0.true)) once
          | then-number-eq0-via-else-number-eq0+then-number-n w ↦ not_once_outside n order i v lt at (λ lo hi. omega (arith, hi, w.if-number-n.true, count)) once
          | then-number-eq0-via-else-number-eq0+else-number-n+then-index w ↦
              let front = c.loop-node.invariant.front in
              let hi : v ≤ n = omega (arith, w.if-number-n.false, count) in
              let room : v < length c.loop-node.listed.items = omega (arith, front.room, hi) in
              let again = sym (get_or_read c.loop-node.listed.items v _ room w.index.ensures false) ∙ w.if-index.true in
              not_once_twice n order i v lt at (front.marked v hi again) once
        ]),
      );
    }

pub returns : goal.returns
returns c =
    let n = (log_of c.args.history.now).nodes in
    let order = c.args.order.now in
    let all = take_all c.loop-node.node-index order c.loop-node-test.false in
    record {
      answer = (
        λ t. once_from n order (c.if-order-n.false ∙ c.committed-n.ensures.count) (subst Apart all c.loop-node.invariant.apart)
            (λ v h. c.loop-node.invariant.within v (subst (Has v) (sym all) h)),
        λ once. search rules,
      );
    }
