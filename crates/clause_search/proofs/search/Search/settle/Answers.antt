use Rattle.watched_clauses.proofs.Extending.{extends_then}
use Rattle.clause_search.proofs.search.Search.settle.Goals as goal

pub returns : goal.returns
returns c = record {
  extends = extends_then c.args.given c.args.checker.now.clauses c.settle.new.checker.clauses c.forget.new.checker.clauses (c.settle.ensures.extends c.args.given) c.forget.ensures.extends;
}
