use Rattle.branch_search.proofs.Prelude.{Some, sym, ap, ◌∙◌, place_in}
use Rattle.branch_search.proofs.Retraced.{view_kept, view_unkept}
use Rattle.branch_search.proofs.retrace.go_back.Goals as goal

pub returns-in_default-clause-none : goal.returns-in_default-clause-none
returns-in_default-clause-none c =
    let node = c.args.node in
    let placed = sym (ap (λ l. place_in l node) c.deref.ensures.value) ∙ sym c.place_of.ensures.place ∙ c.in_default.is in
    λ t. view_unkept c.args.trail.now.kept.items c.args.view.now.polygraph node c.if-node-eq0.false placed

pub returns-clause-seen : goal.returns-clause-seen
returns-clause-seen c =
    let node = c.args.node in
    let items = c.args.trail.now.kept.items in
    let placed = sym (ap (λ l. place_in l node) c.deref.ensures.value) ∙ sym c.place_of.ensures.place ∙ c.in-Some.is in
    let within = rw c.deref.ensures.value at c.in-Some.ensures.within in
    λ t. view_kept items c.args.view.now.polygraph node c.in-Some.place c.index.result.now c.if-node-eq0.false placed within c.index.ensures ∙ ap (λ v. Some v) (sym c.restore.ensures.restored)
