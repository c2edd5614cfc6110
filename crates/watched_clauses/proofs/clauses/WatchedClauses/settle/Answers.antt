use Rattle.watched_clauses.proofs.Extending.{extends_then}
use Rattle.watched_clauses.proofs.clauses.WatchedClauses.settle.Goals as goal

pub returns-in_err-take_root : goal.returns-in_err-take_root
returns-in_err-take_root c = record {
  extends = λ n. extends_then n c.args.checker.now.clauses c.loop-index.checker.clauses c.take_root.new.checker.clauses (c.loop-index.invariant n) (c.take_root.ensures.extends n);
}

pub loop-index-preserved : goal.loop-index-preserved
loop-index-preserved c = λ n. extends_then n c.args.checker.now.clauses c.loop-index.checker.clauses c.take_root.new.checker.clauses (c.loop-index.invariant n) (c.take_root.ensures.extends n)
