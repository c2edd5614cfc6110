use Rattle.session_history.proofs.Prelude.{[], refl, ◌<◌, ℕ, List, ap, sym, ◌∙◌, arith, length, map, subst, All, view, event_key, placed_in, ops_in, resolved, Node, CountsAll, Session, node_among, few_nodes, rules_where_no_fault, log_nodes}
use Rattle.session_history.proofs.Prelude.{KeepsPlaces, keys_among}
use Rattle.session_history.proofs.Tabled.{events_within, named_node, keys_held, nodes_held, count_held, writes_held, rows_held, readers_held, reads_held}
use Rattle.session_history.proofs.Seen.{no_places, places_seen}
use Rattle.session_history.proofs.log.History.of.Goals as goal

pub names_of-requires : goal.names_of-requires
names_of-requires c =
    let ss = map view c.args.sessions.items in
    omega (arith, ap length c.deref-2.ensures.value, count_held ss c.args.accepted.all c.requires.accepted.holds, log_nodes ss, few_nodes ss c.requires.sound)

pub rows_of-requires-clause-few : goal.rows_of-requires-clause-few
rows_of-requires-clause-few c =
    let ss = map view c.args.sessions.items in
    omega (arith, ap length c.deref-3.ensures.value, count_held ss c.args.accepted.all c.requires.accepted.holds, log_nodes ss, few_nodes ss c.requires.sound)

pub rows_of-requires-clause-keys : goal.rows_of-requires-clause-keys
rows_of-requires-clause-keys c =
    let ss = map view c.args.sessions.items in
    let P : List Node → Type 0 = λ ns. All (λ node. All (λ event. event_key event < c.len.result) node.events.items) ns in
    let Q : ℕ → Type 0 = λ n. All (λ node. All (λ event. event_key event < n) node.events.items) c.args.accepted.all.nodes.items in
    subst P (sym c.deref-3.ensures.value) (subst Q (sym c.len.ensures)
    (events_within c.args.accepted.all.numbers.texts.items (placed_in (resolved ss)) c.args.accepted.all.nodes.items c.requires.accepted.holds.keys c.requires.accepted.holds.nodes))

pub reads_of-requires : goal.reads_of-requires
reads_of-requires c =
    let ss = map view c.args.sessions.items in
    let all = c.args.accepted.all in
    let rows = rows_held ss all c.requires.accepted.holds c.len.result c.deref-3.result.now c.in_ok-rows.rows.items c.len.ensures c.deref-3.ensures.value c.in_ok-rows.ensures in
    readers_held ss all c.requires.accepted.holds c.len-2.result c.in_ok-rows.rows.items c.deref-4.result.now (c.len-2.ensures ∙ all.nodes.ok.0) c.deref-4.ensures.value rows

pub indexed-requires : goal.indexed-requires
indexed-requires c =
    let ss = map view c.args.sessions.items in
    subst KeepsPlaces (sym (c.into_texts.ensures ∙ c.requires.accepted.holds.keys)) (places_seen (keys_among (placed_in (resolved ss))) [] (no_places [] refl))

pub invariant_of-result : goal.invariant_of-result
invariant_of-result c =
    let ss = map view c.args.sessions.items in
    let all = c.args.accepted.all in
    let rows_are = rows_held ss all c.requires.accepted.holds c.len.result c.deref-3.result.now c.in_ok-rows.rows.items c.len.ensures c.deref-3.ensures.value c.in_ok-rows.ensures in
    record {
      sound = c.requires.sound;
      taken = c.requires.accepted.taken;
      keys = c.in_ok-keys.ensures ∙ c.into_texts.ensures ∙ keys_held ss all c.requires.accepted.holds;
      nodes = nodes_held ss all c.requires.accepted.holds;
      names = λ session place. c.in_ok-names.ensures session place ∙ ap (node_among session place 1) c.deref-2.ensures.value ∙ named_node ss session place all.nodes.items (nodes_held ss all c.requires.accepted.holds);
      rows = rows_are;
      reads = reads_held ss all c.requires.accepted.holds c.len-2.result c.in_ok-rows.rows.items c.deref-4.result.now c.in_ok-reads.reads.items c.requires.accepted.once (c.len-2.ensures ∙ all.nodes.ok.0) c.deref-4.ensures.value rows_are c.in_ok-reads.ensures;
      writes = writes_held ss all c.requires.accepted.holds c.requires.accepted.once;
      counts = (let P : List Session → Type 0 = λ xs. CountsAll (map view xs) c.counts_of-counts.result in subst P c.deref.ensures.value c.counts_of-counts.ensures);
    }

pub counts_of-counts-requires-clause-few : goal.counts_of-counts-requires-clause-few
counts_of-counts-requires-clause-few c =
    let same = ap (λ (xs : List Session). length (ops_in (map view xs))) c.deref.ensures.value in
    omega (arith, same, (rules_where_no_fault 1 (map view c.args.sessions.items) c.requires.sound.sessions).operations)
