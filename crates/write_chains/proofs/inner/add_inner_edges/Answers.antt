use Rattle.write_chains.proofs.Prelude.{◌≡◌, ◌+◌, ◌<◌, ◌++◌, None, Some, length, refl, sym, ap, ◌∙◌, arith, flat_map, range_with_len, append-nil, get_or_read, slice_get_read, edges_before}
use Rattle.write_chains.proofs.Inside.{edges_further}
use Rattle.write_chains.proofs.Pushes.{list_at}
use Rattle.write_chains.proofs.inner.add_inner_edges.Goals as goal
use Rattle.write_chains.proofs.inner.add_inner_edges.Goals.{in-Some+in_ok-add_edges_to, in_default}

pub loop-node-preserved : goal.loop-node-preserved
loop-node-preserved c = λ n f g next readers.
    (let table = c.args.links.now.next.items in
    let lists = c.args.links.now.readers.items in
    let k = c.loop-node.node in
    let now = c.loop-node.edges.items in
    let lt : k < length table = omega (arith, c.loop-node-test.true, c.len-node-end.ensures, c.args.links.now.next.ok.0) in
    let here : c.index.result.now ≡ f k = get_or_read table k c.index.result.now lt c.index.ensures None ∙ next.each k (omega (arith, lt, next.count)) in
    edges_further (λ w. edges_before (g w) (f w)) k c.args.edges.now.items now c.match-index.edges.items (c.loop-node.invariant n f g next readers)
    (elim c.match-index.branch [
      | in-Some+in_ok-add_edges_to w ↦
          let list = w.index-in-Some.result.now in
          let at = slice_get_read lists (length lists) k list refl (omega (arith, lt, next.count, readers.count)) w.index-in-Some.ensures in
          let among : w.deref.result.now ≡ g k = w.deref.ensures.value ∙ list_at (n + 1) g lists k list readers (omega (arith, lt, next.count)) at in
          ap (λ v. v.items) w.edges-is ∙ w.in_ok-add_edges_to.ensures.edges
          ∙ ap (λ rs. now ++ edges_before rs (Some w.in-Some.writer)) among
          ∙ ap (λ o. now ++ edges_before (g k) o) (sym w.in-Some.is ∙ here)
      | in_default w ↦
          ap (λ v. v.items) w.edges-is ∙ sym (append-nil now) ∙ ap (λ o. now ++ edges_before (g k) o) (sym w.in_default.is ∙ here)
    ]))

pub returns : goal.returns
returns c = record {
  edges = λ n f g next readers.
      (let count : c.loop-node.node ≡ n + 1 = omega (arith, c.loop-node-test.false, c.loop-node.auto.node-end, c.len-node-end.ensures, c.args.links.now.next.ok.0, next.count) in
      c.loop-node.invariant n f g next readers ∙ ap (λ m. c.args.edges.now.items ++ flat_map (λ w. edges_before (g w) (f w)) (range_with_len 0 m)) count);
}
