use Rattle.proof_checks.proofs.Prelude.{◌+◌, arith}
use Rattle.proof_checks.proofs.Rounds.{longer}
use Rattle.proof_checks.proofs.distinct.Marks.reach.Goals as goal

pub returns-clause-same : goal.returns-clause-same
returns-clause-same c = λ k. longer c.args.self.now.rounds.items c.resize.new.self.items (c.args.place + 1) _ k (omega (arith, c.if-place-len.false, c.len.ensures, c.args.self.now.rounds.ok.0)) c.in_ok-resize.ensures.items
