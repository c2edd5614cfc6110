use Rattle.decode_order.proofs.Prelude.{◌<◌, ◌∙◌, length, ap, sym, subst, AllByRecursion, Event, after, log_of, event_key, held, first_mismatch, placed_from}
use Rattle.decode_order.proofs.Keys.{keys_below}
use Rattle.decode_order.proofs.Mismatch.{nodes_more, node_mismatch}
use Rattle.decode_order.proofs.reads.first_mismatch.Goals as goal

pub replay_node-requires : goal.replay_node-requires
replay_node-requires c =
    let v = c.node-item.result in
    let below : AllByRecursion (λ (e : Event). event_key e < length c.loop-node.store) ((log_of c.args.history.now).ops v) =
    subst (λ n. AllByRecursion (λ (e : Event). event_key e < n) ((log_of c.args.history.now).ops v)) (sym c.loop-node.invariant.room) (keys_below c.args.history.now v) in
    record { keys = subst (AllByRecursion (λ (e : Event). event_key e < length c.loop-node.store)) (sym c.events_of.ensures.events) below }

pub returns-in-Some : goal.returns-in-Some
returns-in-Some c =
    let ops = (log_of c.args.history.now).ops in
    let v = c.node-item.result in
    let found = ap (λ l. first_mismatch (held c.loop-node.store) (placed_from v 1 l)) (sym c.events_of.ensures.events) ∙ c.in-Some.ensures.first v in
    record { first = sym (node_mismatch ops c.args.order.now c.loop-node.node-index v _ c.loop-node.store (v, c.in-Some.op) c.loop-node-test.true c.node-item.is found c.loop-node.invariant) }

pub loop-node-preserved : goal.loop-node-preserved
loop-node-preserved c =
    let ops = (log_of c.args.history.now).ops in
    let v = c.node-item.result in
    let none = ap (λ l. first_mismatch (held c.loop-node.store) (placed_from v 1 l)) (sym c.events_of.ensures.events) ∙ c.in_default.ensures.first v in
    let held_now = c.in_default.ensures.after ∙ ap (after (held c.loop-node.store)) c.events_of.ensures.events in
    nodes_more ops c.args.order.now c.loop-node.node-index v _ c.loop-node.store c.replay_node.new.store c.loop-node-test.true c.node-item.is c.replay_node.auto.store none held_now c.loop-node.invariant
