use Rattle.cube_machine.proofs.Prelude.{◌≡◌, ℕ, ◌+◌, ◌<◌, length, Side, cube_in, either, flag_at, is_odd}
use Rattle.cube_machine.proofs.decided.turn_between.Given as goal

abbrev pub invariant-loop-from : goal.invariant-loop-from
invariant-loop-from l = record {
  from : l.from < length l.tree.nodes;
  to : l.to < length l.tree.nodes;
  count : length l.flags ≡ length l.fn.flags;
  each : (c : ℕ) (side : Side) → c < length l.fn.flags → either (flag_at l.flags c side) (either (is_odd (cube_in l.tree.nodes l.from) c side) (is_odd (cube_in l.tree.nodes l.to) c side))
      ≡ either (flag_at l.fn.flags c side) (either (is_odd (cube_in l.tree.nodes l.first) c side) (is_odd (cube_in l.tree.nodes l.second) c side));
}

abbrev pub decreases-loop-from : goal.decreases-loop-from
decreases-loop-from l = l.from + l.to
