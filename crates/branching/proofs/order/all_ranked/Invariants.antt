use Rattle.branching.proofs.Prelude.{◌≡◌, ◌-◌, map, All, range_with_len, unreached}
use Rattle.branching.proofs.order.all_ranked.Given as goal

abbrev pub invariant-loop-number : goal.invariant-loop-number
invariant-loop-number l = record {
  nodes : map (λ x. x.node) l.all.items ≡ range_with_len 1 (l.number - 1);
  counts : All (λ x. x.unreached ≡ unreached l.rows x.node) l.all.items;
}
