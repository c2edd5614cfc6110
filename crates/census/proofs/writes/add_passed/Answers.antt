use Rattle.census.proofs.Prelude.{◌||◌, ap, ◌∙◌, passes_over, has_version}
use Rattle.census.proofs.Truth.{left_out, let_in}
use Rattle.census.proofs.Behind.{passed_are}
use Rattle.census.proofs.writes.add_passed.Goals as goal

pub returns-then-not-is_committed : goal.returns-then-not-is_committed
returns-then-not-is_committed c = λ behind k w. left_out c.args.is_committed (has_version c.args.versions.now k w) (passes_over k w c.args.ops.now) c.if-not-is_committed.true

pub returns : goal.returns
returns c = λ behind k w.
    let_in c.args.is_committed (has_version c.args.versions.now k w) (passes_over k w c.args.ops.now) (has_version c.add_passes.new.versions k w)
    c.if-not-is_committed.false (c.in_ok-add_passes.ensures k w ∙ ap (λ b. has_version c.args.versions.now k w || b) (passed_are c.args.ops.now c.args.states.now behind k w))
