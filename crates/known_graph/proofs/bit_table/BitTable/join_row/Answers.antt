use Rattle.known_graph.proofs.Prelude.{◌≡◌, ◌↔◌, ◌⊎◌, ℕ, ◌++◌, length, take, drop, sym, ap, ◌∙◌, subst, Contains, take_at, marked_graph, IsMarked}
use Rattle.known_graph.proofs.Edges.{JoinsRow, marked_nodes, node_in, row_within, joins_row, join_keeps, join_edges}
use Rattle.known_graph.proofs.bit_table.BitTable.join_row.Goals as goal

pub join_row-requires-clause-to : goal.join_row-requires-clause-to
join_row-requires-clause-to c =
    row_within c.self.inside.nodes c.self.inside.words.items c.args.to c.row_len-len.result c.as_mut_slice.result.now c.self.invariant (node_in _ _ _ _ c.self.view_is c.requires.nodes.0) c.row_len-len.ensures.value c.as_mut_slice.ensures.value

pub join_row-requires-clause-from : goal.join_row-requires-clause-from
join_row-requires-clause-from c =
    row_within c.self.inside.nodes c.self.inside.words.items c.args.from c.row_len-len.result c.as_mut_slice.result.now c.self.invariant (node_in _ _ _ _ c.self.view_is c.requires.nodes.1) c.row_len-len.ensures.value c.as_mut_slice.ensures.value

joined : (c : goal.After-self-1) → JoinsRow c.self.inside.nodes c.self.inside.words.items c.join_row.new.words c.args.to c.args.from
joined c =
    joins_row c.self.inside.nodes c.row_len-len.result c.args.to c.args.from c.self.inside.words.items c.as_mut_slice.result.now c.join_row.new.words c.row_len-len.ensures.value c.as_mut_slice.ensures.value c.join_row.ensures.bits c.join_row.ensures.len

pub invariant_of-self : goal.invariant_of-self
invariant_of-self c =
    let n = c.self.inside.nodes in
    let old = c.self.inside.words.items in
    let new = c.join_row.new.words in
    let taken = take_at new (drop (length new) old) c.self.inside.words.len (c.join_row.ensures.len ∙ c.as_mut_slice.ensures.len) in
    subst (IsMarked n) (sym taken) (join_keeps n old new c.args.to c.args.from c.self.invariant (node_in _ _ _ _ c.self.view_is c.requires.nodes.1) (joined c))

pub returns-clause-nodes : goal.returns-clause-nodes
returns-clause-nodes c =
    let n = c.self.inside.nodes in
    let new = c.join_row.new.words in
    marked_nodes n (take c.self.inside.words.len (new ++ drop (length new) c.self.inside.words.items)) ∙ sym (marked_nodes n c.self.inside.words.items) ∙ ap (λ g. g.nodes) c.self.view_is

pub returns-clause-edges : goal.returns-clause-edges
returns-clause-edges c =
    let n = c.self.inside.nodes in
    let old = c.self.inside.words.items in
    let new = c.join_row.new.words in
    let to = c.args.to in
    let from = c.args.from in
    let taken = take_at new (drop (length new) old) c.self.inside.words.len (c.join_row.ensures.len ∙ c.as_mut_slice.ensures.len) in
    subst (λ ws. (u v : ℕ) → (Contains (marked_graph n ws).edges (u, v) ↔ (Contains c.args.self.now.edges (u, v) ⊎ ((u ≡ to) × Contains c.args.self.now.edges (from, v))))) (sym taken)
    (subst (λ g. (u v : ℕ) → (Contains (marked_graph n new).edges (u, v) ↔ (Contains g.edges (u, v) ⊎ ((u ≡ to) × Contains g.edges (from, v))))) c.self.view_is
    (join_edges n old new to from (node_in _ _ _ _ c.self.view_is c.requires.nodes.0) (node_in _ _ _ _ c.self.view_is c.requires.nodes.1) (joined c)))
