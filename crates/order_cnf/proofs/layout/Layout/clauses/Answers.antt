use Rattle.order_cnf.proofs.Prelude.{ap, ◌∙◌}
use Rattle.order_cnf.proofs.Parts.{all_parts}
use Rattle.order_cnf.proofs.layout.Layout.clauses.Goals as goal

pub returns : goal.returns
returns c =
    let l = c.self.inside in
    record {
      items = all_parts l.relation l.start l.units.items l.bipaths.items l.edges.items l.counts.items c.as_slice.result.now c.as_slice-2.result.now c.as_slice-3.result.now c.as_slice-4.result.now c.new.result c.new-2.result
          c.as_slice.ensures.value c.as_slice-2.ensures.value c.as_slice-3.ensures.value c.as_slice-4.ensures.value c.new.ensures.value c.new-2.ensures.value
          ∙ ap (λ x. x.clauses) c.self.view_is;
    }
