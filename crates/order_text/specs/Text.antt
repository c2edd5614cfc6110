-- The text of names and of orders.
use Rattle.std.specs.Prelude.{ℕ, ◌<◌, ◌≤◌, List, [], ◌∷◌, ◌++◌, decimal}
use Rattle.std.specs.List.{flat_map, All}
use Rattle.session_log.specs.Text.{ClientSession}
use Rattle.log_definitions.specs.Numbers.{log_of}
use Rattle.session_history.specs.Tables.{name_in}

-- a session number, this byte, and a place in the session
abbrev pub joined_by : ℕ → ℕ × ℕ → List ℕ
joined_by byte name = decimal name.0 ++ byte ∷ decimal name.1

-- a name as messages print it, with a dot
abbrev pub name_text : ℕ × ℕ → List ℕ
name_text name = joined_by 46 name

-- a line of an order: a name with a space, and LF
abbrev pub name_line : ℕ × ℕ → List ℕ
name_line name = joined_by 32 name ++ 10 ∷ []

-- the line of each node, in the order of the list
unfoldable pub order_text : List ClientSession → List ℕ → List ℕ
order_text ss order = flat_map (λ v. name_line (name_in ss v)) order

-- each is a committed transaction, one of nodes 1 to n
abbrev pub AreNodes : List ClientSession → List ℕ → Type 0
AreNodes ss order = All (λ v. (0 < v) × (v ≤ (log_of ss).nodes)) order
