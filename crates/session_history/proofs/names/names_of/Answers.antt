use Rattle.session_history.proofs.Prelude.{◌∙◌, ap, refl, get, name_cmp}
use Rattle.session_history.proofs.Named.{name_more, names_all}
use Rattle.session_history.proofs.names.names_of.Goals as goal

pub loop-i-preserved : goal.loop-i-preserved
loop-i-preserved c =
    name_more (get name_cmp c.loop-i.names) (get name_cmp c.insert.new.self) c.args.nodes.now c.loop-i.i _ c.node_at.result c.index-nodes-at.result _
    c.loop-i-test.true refl c.node_at.ensures c.index-nodes-at.is (ap (λ s. (s, c.index-nodes-at.result.place)) c.from.ensures) c.loop-i.invariant c.in_ok-insert.ensures.updates.0

pub returns : goal.returns
returns c = λ session place. c.loop-i.invariant session place ∙ names_all c.args.nodes.now c.loop-i.i session place c.loop-i-test.false
