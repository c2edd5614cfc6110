use Rattle.census.proofs.Found.{added}
use Rattle.census.proofs.versions.add_to.Goals as goal

pub returns : goal.returns
returns c = λ k w. added c.args.set.now c.insert.new.self c.args.key.now c.args.wid c.in_ok-insert.ensures.updates k w
