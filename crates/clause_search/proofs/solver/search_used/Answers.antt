use Rattle.watched_clauses.proofs.Extending.{extends_then}
use Rattle.clause_search.proofs.solver.search_used.Goals as goal

pub returns-in-Some : goal.returns-in-Some
returns-in-Some c =
    let extended = extends_then c.len-given.result c.args.checker.now.clauses c.loop.checker.clauses c.round.new.checker.clauses c.loop.invariant c.round.ensures.extends in
    record { found = rw c.in-Some.is at (c.in_ok-found.ensures.found c.args.checker.now.clauses c.len-given.ensures extended) }

pub loop-preserved : goal.loop-preserved
loop-preserved c = extends_then c.len-given.result c.args.checker.now.clauses c.loop.checker.clauses c.round.new.checker.clauses c.loop.invariant c.round.ensures.extends
