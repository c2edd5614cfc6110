use Rattle.reasons.proofs.Squares.{none_crossed}
use Rattle.reasons.proofs.crossed.crossed_reads.Goals as goal

pub returns-in-None : goal.returns-in-None
returns-in-None c = record { answer = λ sought. none_crossed c.args.history.now c.requires.clean (rw c.in-None.is at c.in_ok-square.ensures.none) }
