use Rattle.watched_clauses.proofs.Extending.{extends_then}
use Rattle.clause_search.proofs.search.Search.forget.Goals as goal

pub loop-index-preserved : goal.loop-index-preserved
loop-index-preserved c = extends_then c.args.given c.args.checker.now.clauses c.loop-index.checker.clauses c.forget_one.new.checker.clauses c.loop-index.invariant c.forget_one.ensures.extends
