use Rattle.order_cnf.proofs.Prelude.{◌≡◌, ◌+◌, ◌*◌, is_open_from}
use Rattle.order_cnf.proofs.Counted.{count_in}
use Rattle.order_cnf.proofs.triples.Cursor.row_count.Given as goal

abbrev pub invariant-loop-place : goal.invariant-loop-place
invariant-loop-place l = record {
  counted : l.count
      ≡ count_in (is_open_from l.relation l.self.second l.self.first l.self.third) 0 (l.place * 64)
      + count_in (is_open_from l.relation l.self.first l.self.second l.self.third) 0 (l.place * 64);
}
