-- The text of an order by the names of nodes.
use Rattle.std.specs.Prelude.{ℕ, zero, suc, List, unwrap_or, slice_get}
use Rattle.std.specs.List.{flat_map}
use Rattle.order_text.specs.Text.{name_line}

-- the name of a node by its number from 1
abbrev pub name_at : List (ℕ × ℕ) → ℕ → ℕ × ℕ
name_at names zero = (0, 0)
name_at names (suc i) = unwrap_or (slice_get names i) (0, 0)

abbrev pub names_text : List (ℕ × ℕ) → List ℕ → List ℕ
names_text names order = flat_map (λ v. name_line (name_at names v)) order
