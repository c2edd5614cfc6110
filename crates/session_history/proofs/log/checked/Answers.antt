use Rattle.session_history.proofs.Prelude.{Some, None, ap, sym, ◌∙◌, arith, map, length, nat_cmp, contains, view, list_fault, rules_where_no_fault, first_line}
use Rattle.session_history.proofs.Limits.{not_aborted, within_limits, fault_session, fault_operations, fault_committed, fault_keys, fault_write}
use Rattle.session_history.proofs.Totals.{settled_counted}
use Rattle.session_history.proofs.Tabled.{keys_settled_held, taken_held}
use Rattle.session_history.proofs.log.checked.Goals as goal

pub returns-in-Some-clause-fault : goal.returns-in-Some-clause-fault
returns-in-Some-clause-fault c =
    let ss = map view c.args.sessions.now in
    ap (λ n. list_fault n ss) (sym c.first_line-first.ensures) ∙ fault_session c.first_line-first.result ss c.in-Some.line (sym c.in-Some.is ∙ c.in_ok-line.ensures)

pub returns-then-tally-gt-MAX_OPERATIONS-clause-fault : goal.returns-then-tally-gt-MAX_OPERATIONS-clause-fault
returns-then-tally-gt-MAX_OPERATIONS-clause-fault c =
    let ss = map view c.args.sessions.now in
    ap (λ n. list_fault n ss) (sym c.first_line-first.ensures)
    ∙ fault_operations c.first_line-first.result ss (sym c.in_default.is ∙ c.in_ok-line.ensures) (omega (arith, c.of-tally.ensures.operations, c.if-tally-gt-MAX_OPERATIONS.true))

pub returns-then-saturating_add-gt-MAX_NODES-clause-fault : goal.returns-then-saturating_add-gt-MAX_NODES-clause-fault
returns-then-saturating_add-gt-MAX_NODES-clause-fault c =
    let ss = map view c.args.sessions.now in
    let all = not_aborted ss c.of-tally.result c.saturating_add.result c.of-tally.ensures c.saturating_add.ensures in
    ap (λ n. list_fault n ss) (sym c.first_line-first.ensures)
    ∙ fault_committed c.first_line-first.result ss (sym c.in_default.is ∙ c.in_ok-line.ensures) (omega (arith, c.of-tally.ensures.operations, c.if-tally-gt-MAX_OPERATIONS.false))
    (omega (arith, all, c.if-saturating_add-gt-MAX_NODES.true))

pub of-requires-clause-few : goal.of-requires-clause-few
of-requires-clause-few c =
    let some = settled_counted (contains nat_cmp c.in_ok-taken.taken) (map view c.args.sessions.now) in
    omega (arith, some.most, c.of-tally.ensures.committed, c.of-tally.ensures.unknown, c.saturating_add.ensures, c.if-saturating_add-gt-MAX_NODES.false)

pub returns-then-len-gt-MAX_KEYS-clause-fault : goal.returns-then-len-gt-MAX_KEYS-clause-fault
returns-then-len-gt-MAX_KEYS-clause-fault c =
    let ss = map view c.args.sessions.now in
    let keys = ap length (keys_settled_held (contains nat_cmp c.in_ok-taken.taken) ss c.in_ok-all.all c.in_ok-all.ensures.holds) in
    let all = not_aborted ss c.of-tally.result c.saturating_add.result c.of-tally.ensures c.saturating_add.ensures in
    ap (λ n. list_fault n ss) (sym c.first_line-first.ensures)
    ∙ fault_keys c.first_line-first.result ss (sym c.in_default.is ∙ c.in_ok-line.ensures) (omega (arith, c.of-tally.ensures.operations, c.if-tally-gt-MAX_OPERATIONS.false))
    (omega (arith, all, c.if-saturating_add-gt-MAX_NODES.false))
    (omega (arith, keys, c.len.ensures, c.if-len-gt-MAX_KEYS.true))

pub returns-in-Some-twice-clause-fault : goal.returns-in-Some-twice-clause-fault
returns-in-Some-twice-clause-fault c =
    let ss = map view c.args.sessions.now in
    let keys = ap length (keys_settled_held (contains nat_cmp c.in_ok-taken.taken) ss c.in_ok-all.all c.in_ok-all.ensures.holds) in
    let limits =
    within_limits ss c.of-tally.result c.saturating_add.result c.len.result c.of-tally.ensures c.if-tally-gt-MAX_OPERATIONS.false c.saturating_add.ensures c.if-saturating_add-gt-MAX_NODES.false (c.len.ensures ∙ keys) c.if-len-gt-MAX_KEYS.false in
    ap (λ n. list_fault n ss) (sym c.first_line-first.ensures)
    ∙ fault_write c.first_line-first.result ss (Some c.in-Some-twice.line) (sym c.in_default.is ∙ c.in_ok-line.ensures) limits (c.in-Some-twice.ensures ∙ c.in_ok-all.ensures.seen.twice)

pub returns-clause-accepted : goal.returns-clause-accepted
returns-clause-accepted c =
    let ss = map view c.args.sessions.now in
    let keys = ap length (keys_settled_held (contains nat_cmp c.in_ok-taken.taken) ss c.in_ok-all.all c.in_ok-all.ensures.holds) in
    let limits =
    within_limits ss c.of-tally.result c.saturating_add.result c.len.result c.of-tally.ensures c.if-tally-gt-MAX_OPERATIONS.false c.saturating_add.ensures c.if-saturating_add-gt-MAX_NODES.false (c.len.ensures ∙ keys) c.if-len-gt-MAX_KEYS.false in
    ap (λ n. list_fault n ss) (sym c.first_line-first.ensures)
    ∙ fault_write c.first_line-first.result ss None (sym c.in_default.is ∙ c.in_ok-line.ensures) limits (c.in_default-twice.ensures ∙ c.in_ok-all.ensures.seen.twice)

pub returns-clause-holds : goal.returns-clause-holds
returns-clause-holds c =
    let ss = map view c.args.sessions.now in
    let rules = rules_where_no_fault (first_line c.args.version) ss (returns-clause-accepted c) in
    let taken = c.in_ok-taken.ensures (record { sessions = rules.sessions; writes = rules.writes }) in
    record {
      taken = taken;
      holds = taken_held (contains nat_cmp c.in_ok-taken.taken) ss c.in_ok-all.all taken c.in_ok-all.ensures.holds;
      once = sym c.in_default-twice.ensures;
    }
