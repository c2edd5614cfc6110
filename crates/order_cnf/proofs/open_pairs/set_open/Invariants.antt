use Rattle.order_cnf.proofs.Prelude.{not, is_listed, rows_known}
use Rattle.order_cnf.proofs.Filled.{IsFilled, IsPast, IsPastTurned}
use Rattle.order_cnf.proofs.open_pairs.set_open.Given as goal

abbrev pub invariant-loop-u : goal.invariant-loop-u
invariant-loop-u l = record {
  first : IsFilled l.nodes (λ u v. not (is_listed (rows_known l.rows) u v)) (IsPast l.u 0) l.by_first;
  second : IsFilled l.nodes (λ v u. not (is_listed (rows_known l.rows) u v)) (IsPastTurned l.u 0) l.by_second;
}

abbrev pub invariant-loop-v : goal.invariant-loop-v
invariant-loop-v l = record {
  first : IsFilled l.nodes (λ u v. not (is_listed (rows_known l.rows) u v)) (IsPast l.u l.v) l.by_first;
  second : IsFilled l.nodes (λ v u. not (is_listed (rows_known l.rows) u v)) (IsPastTurned l.u l.v) l.by_second;
}
