use Rattle.std.proofs.Common.{◌≡◌, take}
use Rattle.gather.specs.Kept.{nothing_found}
use Rattle.gather.proofs.collecting.none_yet.Given as goal

abbrev pub invariant-loop : goal.invariant-loop
invariant-loop l = l.found.items ≡ nothing_found (take l.index l.blocks)
