use Rattle.reasons.proofs.Prelude.{Crossing}
use Rattle.reasons.proofs.Squares.{crossed_by}
use Rattle.reasons.proofs.crossed.crossing.Goals as goal

pub returns : goal.returns
returns c =
    let all : Crossing = record { one_one = c.pair_read.result; one_two = c.pair_read-2.result; two_one = c.pair_read-3.result; two_two = c.pair_read-4.result } in
    record { crossed = crossed_by c.args.history.now c.requires.clean c.args.square c.requires.square all c.pair_read.ensures.reads c.pair_read-2.ensures.reads c.pair_read-3.ensures.reads c.pair_read-4.ensures.reads }
