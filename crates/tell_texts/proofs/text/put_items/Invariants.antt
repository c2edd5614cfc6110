use Rattle.std.proofs.Common.{◌≡◌, ◌++◌, false, drop}
use Rattle.tell_texts.specs.Texts.{items_text}
use Rattle.tell_texts.proofs.text.put_items.Given as goal

-- what is written, and what is left, are the whole text
abbrev pub invariant-loop-item : goal.invariant-loop-item
invariant-loop-item l = l.out.items ++ items_text l.log l.depth l.walks (drop l.item-index l.items) ≡ l.initial.out.items ++ items_text l.log 0 false l.items
