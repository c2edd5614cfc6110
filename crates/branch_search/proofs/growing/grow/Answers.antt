use Rattle.branch_search.proofs.Prelude.{◌∙◌, sym, ap, None, slice_index_or, IfOk-weaker}
use Rattle.branch_search.proofs.Grown.{grown_open, grown_none, grown_closed}
use Rattle.branch_search.proofs.growing.grow.Goals as goal

pub returns-then-not-is_closing-clause-nodes : goal.returns-then-not-is_closing-clause-nodes
returns-then-not-is_closing-clause-nodes c =
    sym (grown_open c.args.nodes.now.items (slice_index_or c.args.held.now c.args.step.seat None) c.args.step.event c.args.step.reply (sym c.is_closing.ensures ∙ c.if-not-is_closing.true))

pub returns-in_default-clause-nodes : goal.returns-in_default-clause-nodes
returns-in_default-clause-nodes c =
    let seat = c.from-place.ensures ∙ c.get.ensures.value in
    sym (grown_none c.args.nodes.now.items (slice_index_or c.args.held.now c.args.step.seat None) c.args.step.event c.args.step.reply (ap (λ k. slice_index_or c.args.held.now k None) (sym seat) ∙ c.in_default.is))

pub returns-clause-nodes : goal.returns-clause-nodes
returns-clause-nodes c =
    let held = slice_index_or c.args.held.now c.args.step.seat None in
    let seat = c.from-place.ensures ∙ c.get.ensures.value in
    let is = grown_closed c.args.nodes.now.items held c.in-Some.number c.args.step.event c.args.step.reply (sym c.is_closing.ensures ∙ c.if-not-is_closing.false) (ap (λ k. slice_index_or c.args.held.now k None) (sym seat) ∙ c.in-Some.is) in
    IfOk-weaker c.close.result _ _ (λ u h. h ∙ sym is) c.close.ensures
