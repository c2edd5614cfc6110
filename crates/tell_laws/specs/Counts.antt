-- How many cycles are told.
use Rattle.std.specs.Prelude.{ℕ, ◌+◌, List, [], ◌∷◌}
use Rattle.tell_steps.specs.declared.item.Item.{Item}
use Rattle.tell_steps.specs.declared.item.Item.TheVariants.{Cycle}

-- 1 for the line of a cycle
abbrev pub one_where_cycle : Item → ℕ
one_where_cycle (Cycle start edges) = 1
one_where_cycle item = 0

abbrev pub cycles_in : List Item → ℕ
cycles_in [] = 0
cycles_in (i ∷ items) = one_where_cycle i + cycles_in items
