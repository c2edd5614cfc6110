use Rattle.branch_search.proofs.Prelude.{◌∙◌, sym, subst, same_Some, IsLegal, opening_state, next_of, reply_of}
use Rattle.branch_search.proofs.Ends.{spent_at}
use Rattle.branch_search.proofs.reading.read_answer.Goals as goal

pub returns-in-Some-clause-yes : goal.returns-in-Some-clause-yes
returns-in-Some-clause-yes c =
    let p = c.args.reduced.now.poly in let steps = c.args.closed.history.items in let r = c.requires.reached in
    let legal = subst (λ s. IsLegal next_of reply_of s steps) (sym (same_Some (opening_state p c.args.budget) r.0 r.1)) r.2 in
    let each = c.solving_orders_fit.ensures p c.args.budget steps legal in
    (c.requires.its c.in-Some.line).0 (c.in-Some.ensures.fits p each)

pub returns-then-closed-get-clause-read : goal.returns-then-closed-get-clause-read
returns-then-closed-get-clause-read c =
    let p = c.args.reduced.now.poly in let s = c.args.closed.machine in
    spent_at p c.args.budget c.args.closed.history.items s c.closed-closed.result c.requires.reached (sym c.in_default.ensures.found) (sym c.is_exhausted.ensures.exhausted ∙ c.if-is_exhausted.false)
    c.closed-closed.ensures.closed (c.if-closed-get.true ∙ c.get.ensures.value)
