use Rattle.branch_search.proofs.Asked.{after_release}
use Rattle.branch_search.proofs.worker.give_back.Goals as goal

pub returns-clause-asked : goal.returns-clause-asked
returns-clause-asked g c = λ first. after_release first c.args.seat.now.calls c.send.new.seat.calls c.in_ok-send.field-0 c.in_ok-send.ensures.called
