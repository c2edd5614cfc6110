-- A walk over all triples of nodes.
use Rattle.std.specs.Prelude.{ℕ, ◌+◌, ◌-◌, ◌*◌, ◌<◌, ◌≤◌, List, ◌++◌}
use Rattle.serializability.specs.declared.literal.Literal.{Literal}
use Rattle.order_cnf.specs.declared.triples.Cursor.{Cursor}
use Rattle.order_cnf.specs.Tables.{Relation}
use Rattle.order_cnf.specs.Streams.{of_three, of_two, of_one, up_to}

-- where the third is a node below the end, the three ascend
pub record IsCursor (end : ℕ) (c : Cursor) : Type 0 where
  pub few : end ≤ 1001
  pub ascend : c.third < end → (c.first < c.second) × (c.second < c.third)
  pub first : c.first ≤ c.second
  pub second : c.second ≤ end
  pub third : c.third ≤ end

-- the clauses of the first two nodes and each from the third on, of the first and two nodes behind
-- the second, and of three nodes behind the first
unfoldable pub cursor_left : Relation → Cursor → List (List Literal)
cursor_left r c =
    of_one r c.first c.second (up_to c.third (r.nodes + 1))
    ++ (of_two r c.first (up_to (c.second + 1) (r.nodes + 1)) ++ of_three r
    (up_to (c.first + 1) (r.nodes + 1)))

-- at most so many steps are left
abbrev pub steps_left : Cursor → ℕ
steps_left c = (1002 - c.first) * 1048576 + (1002 - c.second) * 1024 + (1002 - c.third)
