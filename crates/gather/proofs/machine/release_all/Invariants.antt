use Rattle.std.proofs.Common.{◌≡◌, ◌++◌, map, take, drop}
use Rattle.gather.specs.Steps.{released}
use Rattle.gather.proofs.machine.release_all.Given as goal

abbrev pub invariant-loop-mark : goal.invariant-loop-mark
invariant-loop-mark l = l.marks ≡ map (released l.seat) (take l.mark-index l.initial.marks) ++ drop l.mark-index l.initial.marks
