use Rattle.session_history.proofs.Prelude.{◌∙◌, ap, arith, Bool, List, length, map, count_by, nat_cmp, subst, contains, take_all, view, session_lines, Session, is_committed, settle, settled, log_lines, writes_from, HasSeen, HoldsAll, Takes}
use Rattle.session_history.proofs.Prelude.{placed_in, placed_from}
use Rattle.session_history.proofs.Taking.{sessions_more, sessions_left, sessions_none, nodes_counted, count_placed, all_seen, all_taken}
use Rattle.session_history.proofs.nodes.Transactions.of.Goals as goal

pub loop-session-init : goal.loop-session-init
loop-session-init c =
    let start = c.in_ok-all.ensures.start in
    record {
      finds = c.in_ok-all.ensures.finds;
      taken = sessions_none (contains nat_cmp c.args.taken.now) c.in_ok-all.all;
      room = omega (arith, start.line, c.requires.low, c.requires.room);
      few = omega (arith, ap length start.nodes, c.requires.few);
    }

pub add_session-requires-clause-few : goal.add_session-requires-clause-few
add_session-requires-clause-few c =
    let x = c.session-item.result in
    let left = sessions_left c.args.sessions.now c.loop-session.session-index x (contains nat_cmp c.args.taken.now) c.loop-session-test.true c.session-item.is in
    let same = ap (λ b. count_by is_committed (map (settle b) (view x).txns)) (c.contains-is_taken.ensures ∙ ap (contains nat_cmp c.args.taken.now) c.from.ensures) in
    omega (arith, left.1, c.loop-session.invariant.few, same)

pub loop-session-preserved : goal.loop-session-preserved
loop-session-preserved c =
    let i = c.loop-session.session-index in
    let x = c.session-item.result in
    let sessions = c.args.sessions.now in
    let chosen = contains nat_cmp c.args.taken.now in
    let is = c.contains-is_taken.ensures ∙ ap chosen c.from.ensures in
    let P : Bool → Type 0 = λ b. Takes c.loop-session.all c.add_session.new.self (session_lines (view x)) (placed_from x.number 1 (map (settle b) (view x).txns)) in
    let own : P (chosen x.number) = subst P is c.in_ok-add_session.ensures.taken in
    let left = sessions_left sessions i x chosen c.loop-session-test.true c.session-item.is in
    let count = nodes_counted c.loop-session.all c.add_session.new.self _ _ own in
    let placed = count_placed x.number 1 (map (settle (chosen x.number)) (view x).txns) in
    record {
      finds = c.in_ok-add_session.ensures.finds;
      taken = sessions_more _ c.loop-session.all c.add_session.new.self sessions i x chosen c.loop-session-test.true c.session-item.is c.loop-session.invariant.taken own;
      room = omega (arith, left.0, c.loop-session.invariant.room, own.line);
      few = omega (arith, left.1, c.loop-session.invariant.few, count, placed);
    }

pub returns-clause-seen : goal.returns-clause-seen
returns-clause-seen c =
    let P : List Session → Type 0 = λ ss. HasSeen (writes_from c.args.first (log_lines (map view ss))) c.loop-session.all.writes in
    subst P (take_all c.loop-session.session-index c.args.sessions.now c.loop-session-test.false)
    (all_seen c.args.first _ c.loop-session.all _ _ c.in_ok-all.ensures.start c.loop-session.invariant.taken)

pub returns-clause-holds : goal.returns-clause-holds
returns-clause-holds c =
    let P : List Session → Type 0 = λ ss. HoldsAll c.loop-session.all (placed_in (settled (contains nat_cmp c.args.taken.now) (map view ss))) in
    subst P (take_all c.loop-session.session-index c.args.sessions.now c.loop-session-test.false)
    (all_taken c.args.first _ c.loop-session.all _ _ c.in_ok-all.ensures.start c.loop-session.invariant.taken)
