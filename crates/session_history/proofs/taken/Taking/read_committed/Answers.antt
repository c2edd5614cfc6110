use Rattle.session_history.proofs.Prelude.{◌+◌, List, map, take, refl, ClientSession, view, Op, Commit, ops_ended, committed_in_all, order_of, found_in}
use Rattle.session_history.proofs.Stepping.{step_in}
use Rattle.session_history.proofs.Found.{reads_more}
use Rattle.session_history.proofs.taken.Taking.read_committed.Goals as goal

pub loop-session-preserved : goal.loop-session-preserved
loop-session-preserved c =
    let sessions = c.args.sessions.now in
    let i = c.loop-session.session-index in
    let committed : ClientSession → List Op = λ s. ops_ended Commit s.txns in
    record {
      taking = c.in_ok-read_session.ensures.taking;
      order = reads_more (found_in c.args.writes.now) (committed_in_all (map view (take i sessions))) (committed (view c.session-item.result)) (committed_in_all (map view (take (i + 1) sessions)))
          (order_of c.args.self.now) (order_of c.loop-session.self) (order_of c.read_session.new.self) c.loop-session.invariant.order c.in_ok-read_session.ensures.order
          (step_in committed view sessions sessions i c.session-item.result refl c.loop-session-test.true c.session-item.is);
    }
