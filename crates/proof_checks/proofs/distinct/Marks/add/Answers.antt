use Rattle.proof_checks.proofs.Rounds.{marks_more}
use Rattle.proof_checks.proofs.distinct.Marks.add.Goals as goal

pub returns : goal.returns
returns c = λ marked are.
    (let within = rw c.place_of-place.ensures.place at c.in_ok-reach.ensures.within in
    rw (c.reach.ensures.round, c.place_of-place.ensures.place)
    (marks_more c.args.self.now.rounds.items c.reach.new.self.rounds.items c.args.self.now.round marked c.args.literal are c.in_ok-reach.ensures.same within))
