-- Nodes by their sessions and places.
use Rattle.std.specs.Prelude.{ℕ, ◌+◌, ◌==◌, ◌&&◌, if◌then◌else◌, List, [], ◌∷◌, Option, None, Some}
use Rattle.std.specs.Ordering.{nat_cmp, ordering_then}
use Rattle.std.specs.declared.cmp.Ordering.{Ordering}
use Rattle.session_history.specs.declared.nodes.Node.{Node}

-- by session, then by place
abbrev pub name_cmp : ℕ × ℕ → ℕ × ℕ → Ordering
name_cmp a b = ordering_then (nat_cmp a.0 b.0) (nat_cmp a.1 b.1)

-- the first of these nodes, of which the first is node v, that has this name
abbrev pub node_among : ℕ → ℕ → ℕ → List Node → Option ℕ
node_among session place v [] = None
node_among session place v (node ∷ nodes) =
    if (node.session == session) && (node.place == place) then Some v else node_among session place
    (v + 1) nodes
