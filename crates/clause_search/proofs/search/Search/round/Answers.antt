use Rattle.watched_clauses.proofs.Extending.{extends_then}
use Rattle.clause_search.proofs.search.Search.round.Goals as goal

pub returns-in_err-round : goal.returns-in_err-round
returns-in_err-round c = record {
  extends = extends_then c.args.given c.args.checker.now.clauses c.loop.checker.clauses c.advance.new.checker.clauses c.loop.invariant c.advance.ensures.extends;
}

pub returns-in-Some : goal.returns-in-Some
returns-in-Some c = record {
  extends = extends_then c.args.given c.args.checker.now.clauses c.loop.checker.clauses c.advance.new.checker.clauses c.loop.invariant c.advance.ensures.extends;
}

pub loop-preserved : goal.loop-preserved
loop-preserved c = extends_then c.args.given c.args.checker.now.clauses c.loop.checker.clauses c.advance.new.checker.clauses c.loop.invariant c.advance.ensures.extends
