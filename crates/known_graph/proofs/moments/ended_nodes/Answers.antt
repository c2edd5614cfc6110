use Rattle.known_graph.proofs.Prelude.{sym, ap, ◌∙◌, rules, arith, IsNonDecreasingBy-from_sort_by_key, ended_of}
use Rattle.known_graph.proofs.EndedNodes.{none_ended, ended_none, ended_more, ended_all, none_of}
use Rattle.known_graph.proofs.moments.ended_nodes.Goals as goal
use Rattle.known_graph.proofs.moments.ended_nodes.Goals.{in-Some+in_ok-push, in_default}

pub loop-number-init : goal.loop-number-init
loop-number-init c = none_ended c.args.history.now c.in_ok-ended.ended.items c.in_ok-ended.ensures.items

pub loop-number-preserved : goal.loop-number-preserved
loop-number-preserved c =
    let ss = c.args.history.now in
    let n = c.loop-number.number in
    let same = ap (ended_of ss) (sym c.node-node.ensures.value) ∙ sym c.ended_of.ensures.moment in
    elim c.match-ended_of.branch [
      | in-Some+in_ok-push w ↦
          rw w.ended-is (ended_more ss n (record { moment = w.in-Some.moment; node = c.node-node.result }) c.loop-number.ended.items w.push.new.self.items (omega arith) c.node-node.ensures.value (same ∙ w.in-Some.is) w.in_ok-push.ensures.items c.loop-number.invariant)
      | in_default w ↦ rw w.ended-is (ended_none ss n c.loop-number.ended.items (same ∙ none_of c.ended_of.result w.in_default.not-Some) c.loop-number.invariant)
    ]

pub returns : goal.returns
returns c =
    ended_all c.args.history.now c.loop-number.number c.committed-nodes.result c.loop-number.ended.items c.sort_by_key.new.self.items (omega (arith, c.loop-number-test.false)) c.committed-nodes.ensures.count c.loop-number.invariant
    c.sort_by_key.ensures.permutation (IsNonDecreasingBy-from_sort_by_key (λ e. e.moment) _ c.in_ok-sort_by_key.ensures.sorted (λ a r q k. search rules))
