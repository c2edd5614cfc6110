use Rattle.write_chains.proofs.Prelude.{log_of, closed_is_cycle}
use Rattle.write_chains.proofs.build.chains.Goals as goal

pub returns-in-Some-clause-cycle : goal.returns-in-Some-clause-cycle
returns-in-Some-clause-cycle c =
    let found = rw c.in-Some.is at c.in_ok-line.ensures.closed in
    closed_is_cycle (log_of c.args.history.now) c.requires.clean found.0 c.in-Some.line.items found.1.1
