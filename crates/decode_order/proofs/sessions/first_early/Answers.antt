use Rattle.decode_order.proofs.Prelude.{◌+◌, ◌-◌, ◌∙◌, true, false, get_or, ap, sym, subst, slice_set, true_from_ne_false, false≢true, log_of}
use Rattle.log_definitions.proofs.Numbered.{numbered}
use Rattle.decode_order.proofs.Turns.{InTurnSoFar, Turn, in_turn_more, early_here}
use Rattle.decode_order.proofs.sessions.first_early.Goals as goal

pub loop-node-preserved : goal.loop-node-preserved
loop-node-preserved c =
    let log = log_of c.args.history.now in
    let order = c.args.order.now in
    let i = c.loop-node.node-index in
    let v = c.node-item.result in
    let marks = c.loop-node.listed.items in
    let turn : Turn log order i v = record { once = c.requires.once; there = c.loop-node-test.true; here = sym c.node-item.is } in
    let more = in_turn_more log (numbered c.args.history.now c.committed.ensures.well_formed) order i v marks turn c.loop-node.invariant
    (λ lo same. true_from_ne_false (get_or marks (v - 1) false) (λ new.
    absurd (false≢true (sym c.if-precedes_previous.false ∙ c.precedes_previous.ensures.answer.1 (lo, same, ap (λ l. get_or l (v - 1) false) c.deref.ensures.value ∙ new))))) in
    subst (λ w. InTurnSoFar log order (i + 1) (slice_set marks w true)) (sym c.get.ensures.value) more

pub returns-then-precedes_previous : goal.returns-then-precedes_previous
returns-then-precedes_previous c =
    let log = log_of c.args.history.now in
    let order = c.args.order.now in
    let i = c.loop-node.node-index in
    let v = c.node-item.result in
    let marks = c.loop-node.listed.items in
    let turn : Turn log order i v = record { once = c.requires.once; there = c.loop-node-test.true; here = sym c.node-item.is } in
    let found = c.precedes_previous.ensures.answer.0 c.if-precedes_previous.true in
    record {
      first = sym (early_here log order i v marks turn c.loop-node.invariant found.0 found.1
          (ap (λ l. get_or l (v - 1) false) (sym c.deref.ensures.value) ∙ found.2));
    }
