use Rattle.known_graph.proofs.Prelude.{◌<◌, sym, ap, subst, arith, rules, tests, Contains}
use Rattle.known_graph.proofs.Edges.{marked_nodes, edge_of_Contains}
use Rattle.known_graph.proofs.bit_table.BitTable.has.Goals as goal

pub row-requires : goal.row-requires
row-requires c =
    let n = c.self.inside.nodes in
    let count = marked_nodes n c.self.inside.words.items in
    let same = ap (λ g. g.nodes) c.self.view_is in
    record { node = omega (arith, count, same) }

pub returns-else-u-self : goal.returns-else-u-self
returns-else-u-self c =
    let n = c.self.inside.nodes in
    let above : n < c.args.u = omega (arith, c.if-u-self.false) in
    record {
      edge = (
        λ t. absurd (search (rules, tests, t, above)),
        λ k. (let e = edge_of_Contains n c.self.inside.words.items c.args.u c.args.v (subst (λ g. Contains g.edges (c.args.u, c.args.v)) (sym c.self.view_is) k) in
            absurd (omega (arith, e.from, above))),
      );
    }
