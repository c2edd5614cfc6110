use Rattle.watched_clauses.proofs.Extending.{extends_then}
use Rattle.clause_search.proofs.search.Search.advance_roots.Goals as goal

pub returns-in-Some : goal.returns-in-Some
returns-in-Some c = record {
  extends = extends_then c.args.given c.args.checker.now.clauses c.settle.new.checker.clauses c.close.new.checker.clauses c.settle.ensures.extends (c.close.ensures.extends c.args.given);
}
