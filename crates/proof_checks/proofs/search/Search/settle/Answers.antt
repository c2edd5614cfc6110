use Rattle.proof_checks.proofs.Prelude.{entails_then}
use Rattle.proof_checks.proofs.search.Search.settle.Goals as goal

pub returns-in_err-take_root-clause-follows : goal.returns-in_err-take_root-clause-follows
returns-in_err-take_root-clause-follows c = entails_then c.args.checker.now.clauses c.loop-index.checker.clauses c.take_root.new.checker.clauses c.loop-index.invariant.follows c.take_root.ensures.follows

pub loop-index-preserved : goal.loop-index-preserved
loop-index-preserved c = record {
  follows = entails_then c.args.checker.now.clauses c.loop-index.checker.clauses c.take_root.new.checker.clauses c.loop-index.invariant.follows c.take_root.ensures.follows;
  holds = λ cs hs. c.take_root.ensures.holds cs (c.loop-index.invariant.holds cs hs);
}
