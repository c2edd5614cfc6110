use Rattle.known_graph.proofs.Prelude.{◌≡◌, ◌/◌, ◌<◌, ◌++◌, length, [], ◌∷◌, sym, ap, ◌∙◌, subst, arith, Contains, row_len, IsWalk, false≢true, node_at, IsTree}
use Rattle.known_graph.proofs.Words.{only_bit}
use Rattle.known_graph.proofs.Edges.{node_word}
use Rattle.known_graph.proofs.Trees.{node_read}
use Rattle.known_graph.proofs.Searched.{IsSearched, Passing, searched_none, searched_next, searched_all, searched_count, below_at}
use Rattle.known_graph.proofs.graph.Known.walk.Goals as goal

pub set_bit-requires : goal.set_bit-requires
set_bit-requires c =
    let n = c.args.self.now.nodes in
    let len = ap row_len c.nodes-nodes.ensures.count in
    let word = node_word n c.args.u c.requires.nodes.0 in
    let here = ap (λ u. u / 64) c.get.ensures.value in
    record { within = omega (arith, c.as_mut_slice-seen.ensures.len, c.in_ok-seen.ensures.len, c.row_len.ensures.value, len, word, here) }

pub loop-place-init : goal.loop-place-init
loop-place-init c =
    let len = ap row_len c.nodes-nodes.ensures.count in
    record {
      room = omega (arith, c.set_bit.ensures.len, c.as_mut_slice-seen.ensures.len, c.in_ok-seen.ensures.len, c.row_len.ensures.value, len);
      searched = subst (λ l. IsSearched c.args.self.now c.args.u c.args.v l c.set_bit.new.words 0) (sym (c.in_ok-push.ensures.items ∙ ap (λ l. l ++ record { node = c.args.u; from = 0 } ∷ []) c.in_ok-found.ensures.items))
          (searched_none c.args.self.now c.args.u c.args.v c.set_bit.new.words c.requires.nodes.0
          (only_bit c.as_mut_slice-seen.result.now c.set_bit.new.words c.row_len.result c.args.u c.get.result (c.as_mut_slice-seen.ensures.value ∙ c.in_ok-seen.ensures.items_if_clones_equal (λ y e. e)) c.get.ensures.value c.set_bit.ensures.bits));
    }

pub returns-then-place-len : goal.returns-then-place-len
returns-then-place-len c = record {
  walk = searched_all c.args.self.now c.args.u c.args.v c.loop-place.found.items c.loop-place.seen c.loop-place.place c.loop-place.invariant.searched (omega (arith, c.if-place-len.true, c.len.ensures));
}

pub returns : goal.returns
returns c =
    let s = c.loop-place.invariant.searched in
    let many = searched_count c.args.self.now c.args.u c.args.v c.loop-place.found.items c.loop-place.seen c.loop-place.place s in
    record {
      walk = searched_all c.args.self.now c.args.u c.args.v c.loop-place.found.items c.loop-place.seen c.loop-place.place s (omega (arith, many, c.loop-place-test.false, c.nodes-nodes.ensures.count));
    }

pub returns-then-has_edge : goal.returns-then-has_edge
returns-then-has_edge c =
    let edges = c.args.self.now.edges in
    let place = c.loop-place.place in
    let found = c.loop-place.found.items in
    let s = c.loop-place.invariant.searched in
    let within : place < length found = omega (arith, s.count, c.if-place-len.false, c.len.ensures) in
    let here : c.index.result.now.node ≡ node_at found place = ap (λ r. r.node) c.index.ensures ∙ node_read found place c.index.result.now within in
    let edge : Contains edges (node_at found place, c.args.v) = subst (λ x. Contains edges (x, c.args.v)) here (c.has_edge.ensures.edge.0 c.if-has_edge.true) in
    let line = c.in_ok-line_to.field-0.items in
    let made : IsTree edges found → Contains edges (node_at found place, c.args.v) → IsWalk edges (node_at found 0) c.args.v line =
    subst (λ l. IsTree edges l → Contains edges (node_at l place, c.args.v) → IsWalk edges (node_at l 0) c.args.v line) c.deref.ensures.value (c.in_ok-line_to.ensures.line edges) in
    record { walk = subst (λ x. IsWalk edges x c.args.v line) s.start (made s.tree edge) }

pub row_words-requires : goal.row_words-requires
row_words-requires c =
    let g = c.args.self.now in
    let place = c.loop-place.place in
    let found = c.loop-place.found.items in
    let s = c.loop-place.invariant.searched in
    let within : place < length found = omega (arith, s.count, c.if-place-len.false, c.len.ensures) in
    let here : c.index.result.now.node ≡ node_at found place = ap (λ r. r.node) c.index.ensures ∙ node_read found place c.index.result.now within in
    let below = below_at g c.args.u c.args.v found c.loop-place.seen place s place within in
    record { node = omega (arith, here, below) }

pub add_row-requires-clause-nodes : goal.add_row-requires-clause-nodes
add_row-requires-clause-nodes c v t =
    let known = c.nodes-nodes.ensures.graph in
    let ends = known.joined (c.index.result.now.node, v) ((c.row_words.ensures.edges v).0 t) in
    omega (arith, ends.1, known.few)

pub loop-place-preserved : goal.loop-place-preserved
loop-place-preserved c =
    let g = c.args.self.now in
    let place = c.loop-place.place in
    let found = c.loop-place.found.items in
    let s = c.loop-place.invariant.searched in
    let known = c.nodes-nodes.ensures.graph in
    let within : place < length found = omega (arith, s.count, c.if-place-len.false, c.len.ensures) in
    let here : c.index.result.now.node ≡ node_at found place = ap (λ r. r.node) c.index.ensures ∙ node_read found place c.index.result.now within in
    let passing : Passing g c.args.v c.index.result.now.node c.loop-place.seen c.row_words.result.now c.add_row.new.seen = record {
      joined = λ w k. (known.joined (c.index.result.now.node, w) k).1;
      row = c.row_words.ensures.edges;
      apart = λ k. false≢true (sym c.if-has_edge.false ∙ c.has_edge.ensures.edge.1 k);
      seen = c.in_ok-add_row.ensures.seen;
    } in
    record {
      room = omega (arith, c.in_ok-add_row.ensures.len, c.loop-place.invariant.room);
      searched = searched_next g c.args.u c.args.v found c.add_row.new.found.items c.loop-place.seen c.row_words.result.now c.add_row.new.seen place s within
          (subst (λ x. Passing g c.args.v x c.loop-place.seen c.row_words.result.now c.add_row.new.seen) here passing) c.in_ok-add_row.ensures.added;
    }
