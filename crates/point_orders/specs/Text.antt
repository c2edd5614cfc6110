-- The text of a list of points.
use Rattle.std.specs.Prelude.{ℕ, List, ◌∷◌, ◌++◌, [], codes}
use Rattle.std.specs.List.{flat_map}
use Rattle.session_log.specs.Text.{ClientSession}
use Rattle.session_history.specs.Tables.{name_in}
use Rattle.order_text.specs.Text.{joined_by}
use Rattle.point_laws.specs.Snapshot.{Point, snapshot, commit}

-- a session, a place in it, and a word, with a space before each but the first, as a line
unfoldable pub word_line : ℕ × ℕ → List ℕ → List ℕ
word_line name word = joined_by 32 name ++ 32 ∷ word ++ 10 ∷ []

-- the transaction of a point by its name, and which of its points it is
abbrev pub point_line : List ClientSession → Point → List ℕ
point_line ss (snapshot v) = word_line (name_in ss v) (codes "snapshot")
point_line ss (commit v) = word_line (name_in ss v) (codes "commit")

-- a line for each point
unfoldable pub points_text : List ClientSession → List Point → List ℕ
points_text ss points = flat_map (point_line ss) points
