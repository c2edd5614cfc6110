use Rattle.proof_checks.proofs.Prelude.{ℕ, ◌<◌, sym, subst}
use Rattle.proof_checks.proofs.Reaching.{starts_false, pass_closed, pass_over, covers_all}
use Rattle.proof_checks.proofs.plain.is_implied.Goals as goal

pub returns-then-branch-clause-ends : goal.returns-then-branch-clause-ends
returns-then-branch-clause-ends c =
    let cs = c.args.checker.now.clauses in
    let first = c.extend_from_slice.new.self.items in
    pass_closed cs c.args.clause.now first c.pass.new.made_false.items c.args.hints.now c.pass.new.kept.items c.in_ok-pass.field-0 (c.in_ok-pass.ensures.passes c.args.clause.now (starts_false cs c.args.clause.now c.new-made_false.result.items first c.new-made_false.ensures.items c.in_ok-extend_from_slice.ensures.items)) c.if-branch.true

pub returns-clause-ends : goal.returns-clause-ends
returns-clause-ends c =
    let cs = c.args.checker.now.clauses in
    let first = c.extend_from_slice.new.self.items in
    let passes = pass_over cs c.args.clause.now first c.pass.new.made_false.items c.args.hints.now c.pass.new.kept.items c.in_ok-pass.field-0 (c.in_ok-pass.ensures.passes c.args.clause.now (starts_false cs c.args.clause.now c.new-made_false.result.items first c.new-made_false.ensures.items c.in_ok-extend_from_slice.ensures.items)) c.if-branch.false in
    c.reach_end.ensures.ends c.args.clause.now passes.keeps.are_false (covers_all cs c.pass.new.made_false.items c.in_ok-left.left.items (λ k less. c.in_ok-left.ensures k (subst (λ (n : ℕ). k < n) (sym c.len.ensures) less)))
