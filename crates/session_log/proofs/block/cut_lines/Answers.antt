use Rattle.session_log.proofs.Prelude.{ℕ, List, Bool, ◌≡◌, ◌+◌, ◌-◌, ◌++◌, length, sym, refl, ap, ◌∙◌, arith, length-append, eqb-true, count_by, lines, bytes_of, is_session_line, blocks_of, header_text, first_line, version_of, body_of}
use Rattle.session_log.proofs.Versions.{header_and_body, header_room}
use Rattle.session_log.proofs.Cutting.{blocks_from, start_blocks, block_ends, block_goes_on, blocks_end, len_split, first_counted, first_within, next_within, session_counted, other_counted, too_many, few_enough, counted_behind}
use Rattle.session_log.proofs.block.cut_lines.Goals as goal
use Rattle.session_log.proofs.block.cut_lines.Goals.{then-starts_session+else-eq+in_ok-push, else-starts_session}

pub overflow_sub-at : goal.overflow_sub-at
overflow_sub-at c =
    let log = ap length (header_and_body c.args.log.now) ∙ length-append (header_text (version_of c.args.log.now)) (body_of c.args.log.now) in
    let whole = ap length c.requires.body in
    omega (arith, log, whole, c.next_line.ensures.shorter)

pub loop-rest-init : goal.loop-rest-init
loop-rest-init c =
    let body = c.next_line.result.0.now in
    let ended = c.next_line.result.1 in
    let rest = c.next_line.result.2.now in
    let v = c.args.version in
    let is = c.next_line.ensures.line in
    let log = ap length (header_and_body c.args.log.now) ∙ length-append (header_text (version_of c.args.log.now)) (body_of c.args.log.now) in
    let header : length c.header-start.result.now ≡ length (header_text (version_of c.args.log.now)) = ap length (c.header-start.ensures ∙ ap header_text c.requires.version) in
    let first : c.first_line-line.result ≡ first_line (version_of c.args.log.now) = c.first_line-line.ensures ∙ ap first_line c.requires.version in
    let whole = ap length c.requires.body in
    let len = len_split c.args.body.now (bytes_of (body, ended)) rest c.next_line.ensures.text in
    let at : length c.args.log.now - length rest ≡ length c.header-start.result.now + length (bytes_of (body, ended)) = omega (arith, log, header, whole, len) in
    let counted = first_counted c.from-sessions.result c.starts_session.result (body, ended) (lines rest) (lines c.args.body.now) c.from-sessions.ensures c.starts_session.ensures is in
    let behind = counted_behind c.args.log.now c.args.body.now c.requires.body in
    let room = header_room (version_of c.args.log.now) in
    record {
      done = ap (λ o. o ++ blocks_from v (length c.header-start.result.now) c.first_line-line.result (length c.args.log.now - length rest) (c.first_line-line.result + 1) (lines rest)) c.new-found.ensures.items ∙ start_blocks v c.args.log.now (body, ended) (lines rest) (length c.header-start.result.now) c.first_line-line.result (length c.args.log.now - length rest) (c.first_line-line.result + 1) c.requires.version (ap lines (sym c.requires.body) ∙ is) header first at refl;
      counted = counted.0 ∙ sym behind;
      few = first_within c.args.most c.from-sessions.result c.requires.most counted.1;
      place = omega (arith, log, whole, len);
      room = omega (arith, at, header, first, room, len, c.next_line.ensures.shorter);
      each = omega (arith, counted.1);
    }

pub returns-then-eq-clause-fault : goal.returns-then-eq-clause-fault
returns-then-eq-clause-fault c =
    let l : List ℕ × Bool = (c.next_line-in-loop-rest.result.0.now, c.next_line-in-loop-rest.result.1) in
    let ls = lines c.next_line-in-loop-rest.result.2.now in
    let yes = sym c.starts_session-in-loop-rest.ensures ∙ c.if-starts_session.true in
    let counted = session_counted c.loop-rest.sessions (count_by is_session_line (lines c.args.log.now)) l ls (lines c.loop-rest.rest.now) c.loop-rest.invariant.counted c.next_line-in-loop-rest.ensures.line yes in
    too_many c.args.most c.args.log.now c.loop-rest.sessions (count_by is_session_line ls) counted (sym c.eq.ensures ∙ c.if-eq.true)

pub loop-rest-preserved : goal.loop-rest-preserved
loop-rest-preserved c =
    let body = c.next_line-in-loop-rest.result.0.now in
    let ended = c.next_line-in-loop-rest.result.1 in
    let rest = c.next_line-in-loop-rest.result.2.now in
    let is = c.next_line-in-loop-rest.ensures.line in
    let total = count_by is_session_line (lines c.args.log.now) in
    let len = len_split c.loop-rest.rest.now (bytes_of (body, ended)) rest c.next_line-in-loop-rest.ensures.text in
    let moved : length c.args.log.now - length rest ≡ c.loop-rest.at + length (bytes_of (body, ended)) = omega (arith, len, c.loop-rest.invariant.place) in
    record {
      done = elim c.if-starts_session.branch [
        | then-starts_session+else-eq+in_ok-push w ↦
            let yes = sym c.starts_session-in-loop-rest.ensures ∙ w.if-starts_session.true in
            rw (w.start-is, w.line-is) (block_ends c.args.version c.loop-rest.start c.loop-rest.line c.loop-rest.at c.loop-rest.n (body, ended) (lines rest) (lines c.loop-rest.rest.now) c.loop-rest.found.items c.if-starts_session.found.items (blocks_of c.args.log.now) (length c.args.log.now - length rest) (c.loop-rest.n + 1) c.loop-rest.invariant.done is yes (rw w.found-is w.in_ok-push.ensures.items) moved refl)
        | else-starts_session w ↦
            let no = sym c.starts_session-in-loop-rest.ensures ∙ w.if-starts_session.false in
            rw (w.start-is, w.line-is, w.found-is) (block_goes_on c.args.version c.loop-rest.start c.loop-rest.line c.loop-rest.at c.loop-rest.n (body, ended) (lines rest) (lines c.loop-rest.rest.now) c.loop-rest.found.items (blocks_of c.args.log.now) (length c.args.log.now - length rest) (c.loop-rest.n + 1) c.loop-rest.invariant.done is no moved refl)
      ];
      counted = elim c.if-starts_session.branch [
        | then-starts_session+else-eq+in_ok-push w ↦
            rw w.sessions-is (session_counted c.loop-rest.sessions total (body, ended) (lines rest) (lines c.loop-rest.rest.now) c.loop-rest.invariant.counted is (sym c.starts_session-in-loop-rest.ensures ∙ w.if-starts_session.true))
        | else-starts_session w ↦
            rw w.sessions-is (other_counted c.loop-rest.sessions total (body, ended) (lines rest) (lines c.loop-rest.rest.now) c.loop-rest.invariant.counted is (sym c.starts_session-in-loop-rest.ensures ∙ w.if-starts_session.false))
      ];
      few = elim c.if-starts_session.branch [
        | then-starts_session+else-eq+in_ok-push w ↦ rw w.sessions-is (next_within c.args.most c.loop-rest.sessions c.loop-rest.invariant.few (sym w.eq.ensures ∙ w.if-eq.false))
        | else-starts_session w ↦ rw w.sessions-is c.loop-rest.invariant.few
      ];
      place = omega (arith, len, c.loop-rest.invariant.place);
      room = omega (arith, len, c.loop-rest.invariant.place, c.loop-rest.invariant.room, c.next_line-in-loop-rest.ensures.shorter);
      each = elim c.if-starts_session.branch [
        | then-starts_session+else-eq+in_ok-push w ↦ omega (arith, w.sessions-is, c.loop-rest.invariant.each)
        | else-starts_session w ↦ omega (arith, w.sessions-is, c.loop-rest.invariant.each)
      ];
    }

pub returns-clause-accepted : goal.returns-clause-accepted
returns-clause-accepted c = few_enough c.args.most c.args.log.now c.loop-rest.rest.now c.loop-rest.sessions c.loop-rest.invariant.counted c.loop-rest.invariant.few (sym (eqb-true (length c.loop-rest.rest.now) 0 (sym c.is_empty.ensures ∙ c.loop-rest-test.false)))

pub returns-clause-blocks : goal.returns-clause-blocks
returns-clause-blocks c = c.in_ok-push-2.ensures.items ∙ blocks_end c.args.version c.loop-rest.start c.loop-rest.line c.loop-rest.at c.loop-rest.n c.loop-rest.rest.now c.loop-rest.found.items (blocks_of c.args.log.now) c.loop-rest.invariant.done (sym (eqb-true (length c.loop-rest.rest.now) 0 (sym c.is_empty.ensures ∙ c.loop-rest-test.false)))
