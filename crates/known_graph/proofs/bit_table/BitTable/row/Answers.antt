use Rattle.known_graph.proofs.Prelude.{◌≡◌, ◌↔◌, ℕ, true, ◌≤◌, ◌+◌, ◌*◌, length, sym, ap, ◌∙◌, subst, arith, rules, Contains, bit_of, row_len}
use Rattle.known_graph.proofs.Edges.{marked_nodes, node_in, row_of, row_edges, row_shown, row_small, row_within, length-row_of}
use Rattle.known_graph.proofs.bit_table.BitTable.row.Goals as goal

pub overflow_mul-start : goal.overflow_mul-start
overflow_mul-start c = omega (arith, row_small c.self.inside.nodes c.args.u c.row_len-len.result c.self.invariant.few (node_in _ _ _ _ c.self.view_is c.requires.node) c.row_len-len.ensures.value)

pub overflow_add-result : goal.overflow_add-result
overflow_add-result c = omega (arith, row_small c.self.inside.nodes c.args.u c.row_len-len.result c.self.invariant.few (node_in _ _ _ _ c.self.view_is c.requires.node) c.row_len-len.ensures.value)

pub slice_bounds-result-end : goal.slice_bounds-result-end
slice_bounds-result-end c =
    let within : c.args.u * c.row_len-len.result + c.row_len-len.result ≤ length c.deref.result.now =
    row_within c.self.inside.nodes c.self.inside.words.items c.args.u c.row_len-len.result c.deref.result.now c.self.invariant (node_in _ _ _ _ c.self.view_is c.requires.node) c.row_len-len.ensures.value c.deref.ensures.value in
    search (rules, within)

pub offset_bounds-deref-start : goal.offset_bounds-deref-start
offset_bounds-deref-start c = omega (arith, row_small c.self.inside.nodes c.args.u c.row_len-len.result c.self.invariant.few (node_in _ _ _ _ c.self.view_is c.requires.node) c.row_len-len.ensures.value)

pub returns-clause-edges : goal.returns-clause-edges
returns-clause-edges c =
    let n = c.self.inside.nodes in
    let row = row_shown n c.self.inside.words.items c.args.u c.row_len-len.result c.deref.result.now c.row_len-len.ensures.value c.deref.ensures.value in
    subst (λ ws. (v : ℕ) → ((bit_of ws v ≡ true) ↔ Contains c.args.self.now.edges (c.args.u, v))) (sym row)
    (subst (λ g. (v : ℕ) → ((bit_of (row_of n c.self.inside.words.items c.args.u) v ≡ true) ↔ Contains g.edges (c.args.u, v))) c.self.view_is
    (row_edges n c.self.inside.words.items c.args.u c.self.invariant (node_in _ _ _ _ c.self.view_is c.requires.node)))

pub returns-clause-len : goal.returns-clause-len
returns-clause-len c =
    let n = c.self.inside.nodes in
    let row = row_shown n c.self.inside.words.items c.args.u c.row_len-len.result c.deref.result.now c.row_len-len.ensures.value c.deref.ensures.value in
    ap length row ∙ length-row_of n c.self.inside.words.items c.args.u c.self.invariant (node_in _ _ _ _ c.self.view_is c.requires.node)
    ∙ ap row_len (sym (marked_nodes n c.self.inside.words.items) ∙ ap (λ g. g.nodes) c.self.view_is)
