use Rattle.session_history.proofs.Found.{found_more}
use Rattle.session_history.proofs.taken.UnknownWrites.add.Goals as goal

pub returns : goal.returns
returns c = λ old h. rw c.in-Write.is (found_more old c.args.self.now _ c.in-Write.wid _ h c.in_ok-insert.ensures.updates.0)
