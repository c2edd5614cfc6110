use Rattle.session_history.proofs.Prelude.{[], ap, sym, ◌∙◌, refl, arith, length, length-map, view_txn}
use Rattle.session_history.proofs.Taking.{takes_committed, takes_aborted, length-txn_lines}
use Rattle.session_history.proofs.nodes.Transactions.add.Goals as goal

pub add-requires : goal.add-requires
add-requires c =
    let lines = length-txn_lines (view_txn c.args.txn.now) in
    let same = ap length (c.in_ok-events.ensures.events []) ∙ length-map c.deref.result.now _ ∙ ap length c.deref.ensures.value in
    omega (arith, lines, same, c.requires.room, ap length c.deref-then-not-is_node.ensures.value)

pub add-requires-2 : goal.add-requires-2
add-requires-2 c =
    let lines = length-txn_lines (view_txn c.args.txn.now) in
    let same = ap length (c.in_ok-events.ensures.events []) ∙ length-map c.deref.result.now _ ∙ ap length c.deref.ensures.value in
    omega (arith, lines, same, c.requires.room, ap length c.deref-2.ensures.value)

pub returns-then-not-is_node-clause-taken : goal.returns-then-not-is_node-clause-taken
returns-then-not-is_node-clause-taken c =
    takes_aborted c.args.self.now (record { numbers = c.events.new.self; nodes = c.args.self.now.nodes; writes = c.add.new.self })
    (view_txn c.args.txn.now) c.args.is_taken c.args.session c.args.place c.deref.result.now c.in_ok-events.events.items c.deref-then-not-is_node.result.now
    c.deref.ensures.value c.deref-then-not-is_node.ensures.value
    c.in_ok-events.ensures.keys c.in_ok-events.ensures.events c.in_ok-add.ensures.line c.in_ok-add.ensures.seen (sym c.is_node.ensures ∙ c.if-not-is_node.true) refl c.in_ok-add.ensures.writes

pub returns-clause-taken : goal.returns-clause-taken
returns-clause-taken c =
    takes_committed c.args.self.now (record { numbers = c.events.new.self; nodes = c.push.new.self; writes = c.add-2.new.self })
    (view_txn c.args.txn.now) c.args.is_taken c.args.session c.args.place c.deref.result.now c.in_ok-events.events.items c.deref-2.result.now
    c.deref.ensures.value c.deref-2.ensures.value
    c.in_ok-events.ensures.keys c.in_ok-events.ensures.events c.in_ok-add-2.ensures.line c.in_ok-add-2.ensures.seen
    _ c.node_at-node.result (sym c.is_node.ensures ∙ c.if-not-is_node.false) (omega (arith, c.node_at-node.ensures, c.len.ensures, c.args.self.now.nodes.ok.0)) c.in_ok-push.ensures.items refl c.in_ok-add-2.ensures.writes
