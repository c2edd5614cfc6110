use Rattle.std.proofs.Common.{◌≡◌, ◌++◌, take}
use Rattle.std.specs.List.{flat_map}
use Rattle.tell_texts.specs.Graphs.{arrow}
use Rattle.tell_texts.proofs.graph.put_arrows.Given as goal

abbrev pub invariant-loop-item : goal.invariant-loop-item
invariant-loop-item l = l.out.items ≡ l.initial.out.items ++ flat_map (arrow l.log) (take l.item-index l.items)
