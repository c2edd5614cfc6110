use Rattle.decode_order.proofs.Prelude.{◌≡◌, ◌+◌, ◌≤◌, take, count_by, range_with_len, before, cnf_of}
use Rattle.decode_order.proofs.decode.nodes_before.Given as goal

abbrev pub invariant-loop-number : goal.invariant-loop-number
invariant-loop-number l = record {
  so_far : l.count ≡ count_by (λ u. before (cnf_of l.formula) l.values u l.node) (take l.number (range_with_len 0 (l.formula.nodes + 1)));
  few : l.count ≤ l.number;
}
