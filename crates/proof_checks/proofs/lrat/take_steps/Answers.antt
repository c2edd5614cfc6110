use Rattle.proof_checks.proofs.Prelude.{◌∙◌, length, entails_then, proof_of}
use Rattle.proof_checks.proofs.Taken.{loop_on, loop_less, loop_end}
use Rattle.proof_checks.proofs.lrat.take_steps.Goals as goal

pub returns-in_err-take_next-clause-follows : goal.returns-in_err-take_next-clause-follows
returns-in_err-take_next-clause-follows c = entails_then c.args.checker.now.clauses c.loop-lrat.checker.clauses c.take_next.new.checker.clauses c.loop-lrat.invariant.follows c.take_next.ensures.follows

pub returns-then-not-branch-clause-follows : goal.returns-then-not-branch-clause-follows
returns-then-not-branch-clause-follows c = entails_then c.args.checker.now.clauses c.loop-lrat.checker.clauses c.take_next.new.checker.clauses c.loop-lrat.invariant.follows c.take_next.ensures.follows

pub returns-then-not-branch-clause-ended : goal.returns-then-not-branch-clause-ended
returns-then-not-branch-clause-ended c =
    loop_end (length c.loop-lrat.checker.known) _ (proof_of c.loop-lrat.checker c.loop-lrat.lrat.added.items) (proof_of c.take_next.new.checker c.take_next.new.self.added.items) c.loop-lrat.steps c.take_next.new.steps c.in_ok-take_next.field-0
    c.loop-lrat.invariant.fault c.in_ok-take_next.ensures.on c.if-not-branch.true

pub loop-lrat-preserved : goal.loop-lrat-preserved
loop-lrat-preserved c = record {
  follows = entails_then c.args.checker.now.clauses c.loop-lrat.checker.clauses c.take_next.new.checker.clauses c.loop-lrat.invariant.follows c.take_next.ensures.follows;
  kept = c.in_ok-take_next.ensures.kept;
  known = c.in_ok-take_next.ensures.known ∙ c.loop-lrat.invariant.known;
  fault = loop_on (length c.loop-lrat.checker.known) (length c.take_next.new.checker.known) _ (proof_of c.loop-lrat.checker c.loop-lrat.lrat.added.items) (proof_of c.take_next.new.checker c.take_next.new.self.added.items) c.loop-lrat.steps c.take_next.new.steps c.in_ok-take_next.field-0
      c.loop-lrat.invariant.fault c.in_ok-take_next.ensures.on c.in_ok-take_next.ensures.known c.if-not-branch.false;
}

pub loop-lrat-smaller : goal.loop-lrat-smaller
loop-lrat-smaller c = loop_less (length c.loop-lrat.checker.known) (proof_of c.loop-lrat.checker c.loop-lrat.lrat.added.items) (proof_of c.take_next.new.checker c.take_next.new.self.added.items) c.loop-lrat.steps c.take_next.new.steps c.in_ok-take_next.field-0
    c.in_ok-take_next.ensures.on c.if-not-branch.false
