use Rattle.std.proofs.Common.{◌≡◌, ◌++◌, drop}
use Rattle.point_orders.specs.Halves.{halves_text}
use Rattle.point_orders.proofs.text.halves_text.Given as goal

abbrev pub invariant-loop-number : goal.invariant-loop-number
invariant-loop-number l = l.out.items ++ halves_text l.halves (drop l.number-index l.order) ≡ halves_text l.halves l.order
