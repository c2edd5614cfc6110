use Rattle.order_cnf.proofs.Prelude.{sym, ap, ◌∙◌, map, edge_literal, pairs_in}
use Rattle.order_cnf.proofs.Parts.{bipath_is}
use Rattle.order_cnf.proofs.layout.bipath_clause.Goals as goal

pub returns : goal.returns
returns c = record {
  value = bipath_is c.args.relation.now c.args.bipath.now c.side_literal.result c.side_literal-2.result
      (c.side_literal.ensures.value ∙ ap (map (λ e. edge_literal (pairs_in c.args.relation.now) e.0 e.1)) (sym c.one.ensures.edge))
      (c.side_literal-2.ensures.value ∙ ap (map (λ e. edge_literal (pairs_in c.args.relation.now) e.0 e.1)) (sym c.two.ensures.edge));
}
