use Rattle.order_cnf.proofs.Prelude.{◌≡◌, ◌+◌, ◌≤◌, length, AllByRecursion, IsUnturned, sides_left, rank_of}
use Rattle.order_cnf.proofs.sides.Sides.next.Given as goal

abbrev pub invariant-loop-self : goal.invariant-loop-self
invariant-loop-self l = record {
  same : sides_left l.self-inside.relation.now l.self-inside.literal l.self-inside.count l.self-inside.edges.now l.self-inside.counts.now
      ≡ sides_left l.initial.self-inside.relation.now l.initial.self-inside.literal l.initial.self-inside.count l.initial.self-inside.edges.now l.initial.self-inside.counts.now;
  unturned : AllByRecursion (IsUnturned l.self-inside.relation.now) l.self-inside.edges.now;
  few : rank_of l.self-inside.literal + length l.self-inside.counts.now ≤ 1300001;
}

abbrev pub decreases-loop-self : goal.decreases-loop-self
decreases-loop-self l = length l.self-inside.edges.now + length l.self-inside.counts.now
