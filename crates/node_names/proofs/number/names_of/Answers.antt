use Rattle.node_names.proofs.Prelude.{◌≡◌, ◌+◌, ◌++◌, List, map, sym, ap, ◌∙◌, drop, drop_all, map-append, append_assoc, append_none, get_drop, item, view, view_txn, Committed, nodes_from, nodes_of, names_of}
use Rattle.session_log.specs.declared.session.Session.{Session}
use Rattle.session_log.specs.declared.session.Txn.{Txn}
use Rattle.log_definitions.proofs.Settled.{IsLearnt}
use Rattle.log_laws.proofs.Txns.{split}
use Rattle.log_laws.proofs.Shifted.{nodes_are}
use Rattle.node_names.proofs.Names.{named_here}
use Rattle.node_names.proofs.number.names_of.Goals as goal

pub loop-session-preserved : goal.loop-session-preserved
loop-session-preserved c =
    let sessions = c.args.sessions.now in
    let i = c.loop-session.session-index in
    let session = c.session-item.result in
    let names = c.loop-session.names.items in
    let rest = nodes_of (map view (drop (i + 1) sessions)) in
    let here = nodes_from session.number 0 (map view_txn session.txns.items) in
    let at = item sessions i session c.loop-session-test.true c.session-item.is in
    ap (λ l. l ++ names_of rest) (c.in_ok-add_places.ensures session.number)
    ∙ ap (λ (l : List Txn). (names ++ map (λ (n : Committed). (session.number, n.place)) (nodes_from session.number 0 (map view_txn l))) ++ names_of rest) c.deref.ensures.value
    ∙ ap (λ l. (names ++ l) ++ names_of rest) (named_here session.number 0 (map view_txn session.txns.items))
    ∙ append_assoc names (names_of here) (names_of rest)
    ∙ ap (λ l. names ++ l) (sym (map-append (λ (n : Committed). (n.session, n.place)) here rest))
    ∙ ap (λ (l : List Session). names ++ names_of (nodes_of (map view l))) (sym (get_drop sessions i session at))
    ∙ c.loop-session.invariant

pub returns : goal.returns
returns c =
    let sessions = c.args.sessions.now in
    let ss = map view sessions in
    let i = c.loop-session.session-index in
    let names = c.loop-session.names.items in
    let named : names ≡ names_of (nodes_of ss) =
    append_none names
    ∙ ap (λ (l : List Session). names ++ names_of (nodes_of (map view l))) (sym (drop_all i sessions c.loop-session-test.false))
    ∙ c.loop-session.invariant in
    record {
      nodes = named;
      learnt = λ learnt. named ∙ ap (λ (l : List Committed). names_of l) (sym (nodes_are ss (split IsLearnt ss learnt)));
    }
