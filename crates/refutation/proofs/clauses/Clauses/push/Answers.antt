use Rattle.refutation.proofs.Prelude.{rules, ◌≡◌, ◌++◌, length, ◌∙◌, ap, clauses_in, AreWithin}
use Rattle.std.specs.Vec.{vec_len}
use Rattle.refutation.proofs.Stores.{clauses_before, within_pushed, on_err}
use Rattle.refutation.proofs.clauses.Clauses.push.Goals as goal

pub returns-in_err-push-clause-same : goal.returns-in_err-push-clause-same
returns-in_err-push-clause-same c =
    let same : clauses_in c.extend_from_slice.new.self.items c.push.new.self.items ≡ c.args.self.now =
    rw (c.in_ok-extend_from_slice.ensures.items, c.in_err-push.ensures.items) (clauses_before c.self.inside.literals.items c.args.clause.now c.self.inside.spans.items c.self.invariant ∙ c.self.view_is) in
    on_err c.from_residual-in_err-push.result same

pub invariant_of-self-2 : goal.invariant_of-self-2
invariant_of-self-2 c =
    let start : c.len-start.result ≡ length c.self.inside.literals.items = search rules in
    let end : c.len-end.result ≡ length (c.self.inside.literals.items ++ c.args.clause.now) =
    let whole : vec_len c.extend_from_slice.new.self ≡ length c.extend_from_slice.new.self.items = search rules in
    c.len-end.ensures ∙ (whole ∙ ap length c.in_ok-extend_from_slice.ensures.items) in
    let within : AreWithin (length c.extend_from_slice.new.self.items) c.push.new.self.items =
    rw (c.in_ok-extend_from_slice.ensures.items, c.in_ok-push.ensures.items) (within_pushed c.self.inside.literals.items c.args.clause.now c.self.inside.spans.items (record { start = c.len-start.result; end = c.len-end.result }) c.self.invariant start end) in
    within
