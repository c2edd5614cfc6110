use Rattle.branching.proofs.Prelude.{◌≡◌, ◌+◌, ◌≤◌, not, take, count_by, range_with_len, has_edge}
use Rattle.branching.proofs.order.unreached.Given as goal

abbrev pub invariant-loop-number : goal.invariant-loop-number
invariant-loop-number l = record {
  so_far : l.count ≡ count_by (λ v. not (has_edge l.rows.edges (l.node, v))) (take l.number (range_with_len 0 (l.rows.nodes + 1)));
  few : l.count ≤ l.number;
}
