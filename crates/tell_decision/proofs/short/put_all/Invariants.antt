use Rattle.std.proofs.Common.{◌≡◌, ◌++◌, None, drop}
use Rattle.tell_decision.specs.Short.{all_words}
use Rattle.tell_decision.proofs.short.put_all.Given as goal

-- what is written, and what is left, are the whole text
abbrev pub invariant-loop-item : goal.invariant-loop-item
invariant-loop-item l = l.out.items ++ all_words l.log l.before (drop l.item-index l.items) ≡ l.initial.out.items ++ all_words l.log None l.items
