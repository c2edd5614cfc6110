use Rattle.census.proofs.Prelude.{not, writes_as, has_version}
use Rattle.census.proofs.Truth.{left_out, let_in, not_true, not_false}
use Rattle.census.proofs.writes.add_aborted.Goals as goal

pub returns-then-is_committed : goal.returns-then-is_committed
returns-then-is_committed c = λ k w. left_out (not c.args.is_committed) (has_version c.args.versions.now k w) (writes_as k w c.args.ops.now) (not_true c.args.is_committed c.if-is_committed.true)

pub returns : goal.returns
returns c = λ k w.
    let_in (not c.args.is_committed) (has_version c.args.versions.now k w) (writes_as k w c.args.ops.now) (has_version c.add_writes.new.versions k w)
    (not_false c.args.is_committed c.if-is_committed.false) (c.in_ok-add_writes.ensures k w)
