use Rattle.reach_rows.proofs.Prelude.{sym, subst, IsMarked}
use Rattle.reach_rows.proofs.Behind.{rows_all, rows_marked}
use Rattle.reach_rows.proofs.bit_rows.Rows.compute.Goals as goal

pub of-requires : goal.of-requires
of-requires g c =
    let words = c.in_ok-words.words.items in
    record { marked = subst (λ n. IsMarked n words) (sym c.nodes.ensures.count) (rows_marked c.args.known.now words c.nodes.ensures.graph c.in_ok-words.ensures.rows) }

pub returns : goal.returns
returns g c = record {
  rows = rw (c.of.ensures.graph, c.nodes.ensures.count) (rows_all c.args.known.now c.in_ok-words.words.items c.nodes.ensures.graph c.in_ok-words.ensures.rows);
}
