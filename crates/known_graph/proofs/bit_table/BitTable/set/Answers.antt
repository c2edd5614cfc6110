use Rattle.known_graph.proofs.Prelude.{◌≡◌, ◌↔◌, ◌⊎◌, ◌++◌, length, take, drop, sym, ap, ◌∙◌, subst, arith, Contains, take_at, Edge, marked_graph, IsMarked}
use Rattle.known_graph.proofs.Edges.{marked_nodes, bit_graph, sets_place, set_keeps, set_edges}
use Rattle.known_graph.proofs.bit_table.BitTable.set.Goals as goal

pub bit_place-place-requires-clause-nodes : goal.bit_place-place-requires-clause-nodes
bit_place-place-requires-clause-nodes c =
    let n = ap (λ g. g.nodes) c.self.view_is in
    let m = marked_nodes c.self.inside.nodes c.self.inside.words.items in
    (omega (arith, n, m, c.requires.nodes.0), omega (arith, n, m, c.requires.nodes.1))

pub invariant_of-self : goal.invariant_of-self
invariant_of-self c =
    let n = c.self.inside.nodes in
    let old = c.self.inside.words.items in
    let new = c.set_bit.new.words in
    let same = ap (λ g. g.nodes) c.self.view_is in
    let count = marked_nodes n old in
    let one = sets_place n c.args.u c.args.v old new c.as_mut_slice.result.now c.bit_place-place.result c.as_mut_slice.ensures.value c.bit_place-place.ensures.place c.set_bit.ensures.bits c.set_bit.ensures.len in
    let taken = take_at new (drop (length new) old) c.self.inside.words.len (c.set_bit.ensures.len ∙ c.as_mut_slice.ensures.len) in
    subst (IsMarked n) (sym taken) (set_keeps n old new c.args.u c.args.v c.self.invariant (omega (arith, same, count, c.requires.nodes.0)) (omega (arith, same, count, c.requires.nodes.1)) one)

pub returns-clause-nodes : goal.returns-clause-nodes
returns-clause-nodes c =
    let n = c.self.inside.nodes in
    let new = c.set_bit.new.words in
    marked_nodes n (take c.self.inside.words.len (new ++ drop (length new) c.self.inside.words.items)) ∙ sym (marked_nodes n c.self.inside.words.items) ∙ ap (λ g. g.nodes) c.self.view_is

pub returns-clause-edges : goal.returns-clause-edges
returns-clause-edges c =
    let n = c.self.inside.nodes in
    let old = c.self.inside.words.items in
    let new = c.set_bit.new.words in
    let same = ap (λ g. g.nodes) c.self.view_is in
    let count = marked_nodes n old in
    let one = sets_place n c.args.u c.args.v old new c.as_mut_slice.result.now c.bit_place-place.result c.as_mut_slice.ensures.value c.bit_place-place.ensures.place c.set_bit.ensures.bits c.set_bit.ensures.len in
    let taken = take_at new (drop (length new) old) c.self.inside.words.len (c.set_bit.ensures.len ∙ c.as_mut_slice.ensures.len) in
    subst (λ ws. (e : Edge) → (Contains (marked_graph n ws).edges e ↔ (Contains c.args.self.now.edges e ⊎ (e ≡ (c.args.u, c.args.v))))) (sym taken)
    (subst (λ g. (e : Edge) → (Contains (marked_graph n new).edges e ↔ (Contains g.edges e ⊎ (e ≡ (c.args.u, c.args.v))))) c.self.view_is
    (set_edges n old new c.args.u c.args.v (omega (arith, same, count, c.requires.nodes.0)) (omega (arith, same, count, c.requires.nodes.1)) one))

pub returns-clause-graph : goal.returns-clause-graph
returns-clause-graph c =
    let new = c.set_bit.new.words in
    bit_graph c.self.inside.nodes (take c.self.inside.words.len (new ++ drop (length new) c.self.inside.words.items)) (invariant_of-self c)
