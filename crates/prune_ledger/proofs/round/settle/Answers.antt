use Rattle.prune_ledger.proofs.Prelude.{sym, One, Two}
use Rattle.prune_ledger.proofs.Turns.{settled_two, open_passed, goes_against, goes_further}
use Rattle.prune_ledger.proofs.round.settle.Goals as goal

pub post_side-requires-clause-against : goal.post_side-requires-clause-against
post_side-requires-clause-against g c κs within =
    goes_against c.args.task.now.polygraph.now c.args.own.now c.args.choice c.in-Some.sides.now One c.judge-verdict.result.one c.in-Some-one.edge
    c.nodes-invariant.ensures.polygraph c.requires.nodes (sym c.in-Some.ensures) c.in-Some-one.is (c.judge-verdict.ensures.one c.args.own.now c.rows.ensures.rows)

pub post_side-requires-in-Some-two-clause-against : goal.post_side-requires-in-Some-two-clause-against
post_side-requires-in-Some-two-clause-against g c κs within =
    goes_further c.args.own.now c.post_side.new.own c.in-Some.sides.now c.in-Some-two.other c.in_ok-post_side.ensures.more
    (goes_against c.args.task.now.polygraph.now c.args.own.now c.args.choice c.in-Some.sides.now Two c.judge-verdict.result.two c.in-Some-two.other
    c.nodes-invariant.ensures.polygraph c.requires.nodes (sym c.in-Some.ensures) c.in-Some-two.is (c.judge-verdict.ensures.two c.args.own.now c.rows.ensures.rows))

pub post_side-requires-in-Some-two-2-clause-against : goal.post_side-requires-in-Some-two-2-clause-against
post_side-requires-in-Some-two-2-clause-against g c κs within =
    goes_against c.args.task.now.polygraph.now c.args.own.now c.args.choice c.in-Some.sides.now Two c.judge-verdict.result.two c.in-Some-two-2.edge
    c.nodes-invariant.ensures.polygraph c.requires.nodes (sym c.in-Some.ensures) c.in-Some-two-2.is (c.judge-verdict.ensures.two c.args.own.now c.rows.ensures.rows)

pub returns-in_ok-post_side-2-clause-settled : goal.returns-in_ok-post_side-2-clause-settled
returns-in_ok-post_side-2-clause-settled g c = settled_two _ _ _ _ _ c.in_ok-post_side.ensures.posted c.in_ok-post_side-2.ensures.posted

pub returns-in_err-pass_on-2-clause-each : goal.returns-in_err-pass_on-2-clause-each
returns-in_err-pass_on-2-clause-each g c given x all =
    open_passed given c.args.own.now c.args.task.now.polygraph.now.choices c.args.choice c.in-Some.sides.now c.judge-verdict.result.one c.judge-verdict.result.two c.args.passed.now.items c.pass_on-2.new.passed.items x (sym c.in-Some.ensures)
    c.in_default-one.is (c.judge-verdict.ensures.one c.args.own.now c.rows.ensures.rows) c.in_default-two-2.is (c.judge-verdict.ensures.two c.args.own.now c.rows.ensures.rows) all c.pass_on-2.ensures.list

pub returns-clause-each : goal.returns-clause-each
returns-clause-each g c given x all =
    open_passed given c.args.own.now c.args.task.now.polygraph.now.choices c.args.choice c.in-Some.sides.now c.judge-verdict.result.one c.judge-verdict.result.two c.args.passed.now.items c.pass_on-2.new.passed.items x (sym c.in-Some.ensures)
    c.in_default-one.is (c.judge-verdict.ensures.one c.args.own.now c.rows.ensures.rows) c.in_default-two-2.is (c.judge-verdict.ensures.two c.args.own.now c.rows.ensures.rows) all c.pass_on-2.ensures.list
