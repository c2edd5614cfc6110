use Rattle.session_history.proofs.Prelude.{◌∙◌, ap, sym, map, arith, nat_cmp, list_any, is_at, length-map, get_or-map, view, with_reads, committed_in_all, order_of, found_in}
use Rattle.session_history.proofs.Worked.{worked_none, worked_more, worked_few}
use Rattle.session_history.proofs.AllTaken.{worked_all, none_taken}
use Rattle.session_history.proofs.taken.taken_among.Goals as goal

pub returns-then-unknown-eq0 : goal.returns-then-unknown-eq0
returns-then-unknown-eq0 c = λ once n. ap (λ ks. list_any (is_at (nat_cmp n)) ks) c.new.ensures.empty ∙ none_taken (map view c.args.sessions.now) (sym c.if-unknown-eq0.true ∙ c.requires) n

pub work-init : goal.work-init
work-init c = record {
  taking = c.in_ok-read_committed.ensures.taking;
  worked = worked_none (map view c.args.sessions.now) (order_of c.read_committed.new.self) (found_in c.in_ok-writes.writes) c.in_ok-writes.ensures.found
      (c.in_ok-read_committed.ensures.order ∙ ap (with_reads (found_in c.in_ok-writes.writes) (committed_in_all (map view c.args.sessions.now))) c.new-taking.ensures.none);
}

pub work-smaller : goal.work-smaller
work-smaller c =
    let few = worked_few (map view c.args.sessions.now) (order_of c.work.taking) (found_in c.in_ok-writes.writes) c.work.done c.work.invariant.worked in
    omega (arith, few, length-map c.args.sessions.now view, length-map c.work.taking.order.items (λ s. view s.now), c.work-test.true, c.len.ensures)

pub work-preserved : goal.work-preserved
work-preserved c = record {
  taking = c.in_ok-read_session.ensures.taking;
  worked = worked_more (map view c.args.sessions.now) (order_of c.work.taking) (order_of c.read_session.new.self) (found_in c.in_ok-writes.writes) c.work.done (view c.index-session.result.now.now)
      c.in_ok-writes.ensures.found c.work.invariant.worked (omega (arith, length-map c.work.taking.order.items (λ s. view s.now), c.work-test.true, c.len.ensures)) (ap (λ s. view s.now) c.index-session.ensures ∙ sym (get_or-map (λ s. view s.now) c.work.taking.order.items c.work.done c.index-session.result.now (view c.index-session.result.now.now) (omega (arith, c.work-test.true, c.len.ensures)))) c.in_ok-read_session.ensures.order;
}

pub returns : goal.returns
returns c = λ once n. c.work.invariant.taking.numbers n ∙ worked_all (map view c.args.sessions.now) (order_of c.work.taking) (found_in c.in_ok-writes.writes) c.work.done once c.in_ok-writes.ensures.found c.work.invariant.worked (omega (arith, length-map c.work.taking.order.items (λ s. view s.now), c.work-test.false, c.len.ensures)) n
