use Rattle.reach_rows.proofs.Prelude.{◌≡◌, ◌≤◌, ℕ, ◌+◌, ◌++◌, length, take, sym, ap, ◌∙◌, subst, arith, length-take-le, row_len, row_len_small, AreReachRows}
use Rattle.reach_rows.proofs.Behind.{rows_one, rows_cut, rows_joined}
use Rattle.reach_rows.proofs.source.add_source.Goals as goal

-- the words of a row of the graph are among those of the array
row_fits : (n count held : ℕ) → n ≤ 1000 → count ≡ row_len n → held ≡ 16 → count ≤ held
row_fits n count held few is words = omega (arith, row_len_small n few, is, words)

pub slice_bounds-row-end : goal.slice_bounds-row-end
slice_bounds-row-end c = row_fits c.args.known.now.nodes c.row_len.result (length c.reach_row-row.result) c.nodes.ensures.graph.few (c.row_len.ensures.value ∙ ap row_len c.nodes.ensures.count) c.reach_row-row.ensures.len

pub slice_bounds-extend_from_slice-end : goal.slice_bounds-extend_from_slice-end
slice_bounds-extend_from_slice-end c =
    sym (length-take-le c.row_len.result c.reach_row-row.result
    (row_fits c.args.known.now.nodes c.row_len.result (length c.reach_row-row.result) c.nodes.ensures.graph.few (c.row_len.ensures.value ∙ ap row_len c.nodes.ensures.count) c.reach_row-row.ensures.len))

pub returns : goal.returns
returns c = record {
  rows = λ first le before.
      (let graph = c.args.known.now in
      let u = c.args.source in
      let old = c.args.words.now.items in
      let row = c.reach_row-row.result in
      let count : c.row_len.result ≡ row_len graph.nodes = c.row_len.ensures.value ∙ ap row_len c.nodes.ensures.count in
      let part = take (row_len graph.nodes) row in
      let long = row_fits graph.nodes (row_len graph.nodes) (length row) c.nodes.ensures.graph.few (sym count ∙ count) c.reach_row-row.ensures.len in
      let items = c.in_ok-extend_from_slice.ensures.items ∙ ap (λ k. old ++ take k row) count in
      subst (AreReachRows graph first (u + 1)) (sym items)
      (rows_joined graph first u (u + 1) old part le (omega arith) before (rows_one graph u part (rows_cut graph u row c.nodes.ensures.graph long c.reach_row-row.ensures.reach))));
}
