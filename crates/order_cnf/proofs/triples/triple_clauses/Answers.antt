use Rattle.order_cnf.proofs.Terms.{triple_is}
use Rattle.order_cnf.proofs.triples.triple_clauses.Goals as goal

pub returns : goal.returns
returns c = record {
  value = triple_is c.args.relation.now c.args.i c.args.j c.args.k c.terms-ij.result.1 c.terms-jk.result.1 c.terms-ik.result.0 c.terms-ij.result.0 c.terms-jk.result.0 c.terms-ik.result.1 c.clause_of.result c.clause_of-2.result
      c.terms-ij.ensures.down c.terms-jk.ensures.down c.terms-ik.ensures.up c.terms-ij.ensures.up c.terms-jk.ensures.up c.terms-ik.ensures.down c.clause_of.ensures.value c.clause_of-2.ensures.value;
}
