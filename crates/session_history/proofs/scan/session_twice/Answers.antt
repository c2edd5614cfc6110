use Rattle.session_history.proofs.Prelude.{sym, ◌∙◌, arith, nat_cmp, ◌+◌, contains, not-true, not-false}
use Rattle.session_history.proofs.Twice.{lines_more, lines_within, twice_found, none_more, seen_more}
use Rattle.session_history.proofs.scan.session_twice.Goals as goal

pub returns-then-not-branch : goal.returns-then-not-branch
returns-then-not-branch c =
    let x = c.session-item.result in
    twice_found c.args.first c.args.sessions.now c.loop-session.session-index c.loop-session.line x c.loop-session-test.true c.session-item.is
    c.loop-session.invariant.line c.loop-session.invariant.none
    (sym (c.loop-session.invariant.seen x.number) ∙ not-false (contains nat_cmp c.loop-session.seen x.number) (sym c.in_ok-insert.ensures.added ∙ c.if-not-branch.true))

pub line_count-requires : goal.line_count-requires
line_count-requires c =
    let i = c.loop-session.session-index in
    let more = lines_more c.args.sessions.now i c.session-item.result c.loop-session-test.true c.session-item.is in
    let all = lines_within c.args.sessions.now (i + 1) in
    omega (arith, more, all, c.requires.room, c.requires.low)

pub overflow_add-line : goal.overflow_add-line
overflow_add-line c =
    let i = c.loop-session.session-index in
    let more = lines_more c.args.sessions.now i c.session-item.result c.loop-session-test.true c.session-item.is in
    let all = lines_within c.args.sessions.now (i + 1) in
    omega (arith, more, all, c.requires.room, c.requires.low, c.loop-session.invariant.line, c.line_count.ensures)

pub loop-session-preserved : goal.loop-session-preserved
loop-session-preserved c =
    let sessions = c.args.sessions.now in
    let i = c.loop-session.session-index in
    let n = c.loop-session.line in
    let x = c.session-item.result in
    let h = c.loop-session-test.true in
    let at = c.session-item.is in
    let number = c.loop-session.invariant.line in
    let fresh = sym (c.loop-session.invariant.seen x.number) ∙ not-true (contains nat_cmp c.loop-session.seen x.number) (sym c.in_ok-insert.ensures.added ∙ c.if-not-branch.false) in
    let more = lines_more sessions i x h at in
    let all = lines_within sessions (i + 1) in
    record {
      none = none_more c.args.first sessions i n x h at number c.loop-session.invariant.none fresh;
      seen = seen_more c.args.first sessions i n x (contains nat_cmp c.loop-session.seen) (contains nat_cmp c.insert.new.self) h at number c.loop-session.invariant.seen c.in_ok-insert.ensures.updates.0;
      line = omega (arith, more, all, c.requires.room, number, c.line_count.ensures);
    }
