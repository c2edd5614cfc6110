-- How a worker comes to see a cube.
use Rattle.std.specs.Prelude.{◌≡◌, ℕ, ◌==◌, List, [], ◌∷◌, Option, Some, if◌then◌else◌}
use Rattle.std.specs.List.{All, find, position}
use Rattle.std.specs.Option.{option_map}
use Rattle.serializability.specs.Polygraph.{Polygraph}
use Rattle.branching.specs.View.{View, opened, decided}
use Rattle.branch_search.specs.declared.retrace.KeptCube.{KeptCube}
use Rattle.branch_search.specs.declared.retrace.Step.{Step}

-- the first place at which a cube of this node is kept
abbrev pub place_in : List KeptCube → ℕ → Option ℕ
place_in kept node = position (λ k. k.node == node) kept

-- the view of node 0, which decides nothing, or of the first kept cube of this node
abbrev pub kept_view : List KeptCube → Polygraph → ℕ → Option View
kept_view kept p node =
    if node == 0 then Some (opened p) else option_map (λ k. k.view)
    (find (λ k. k.node == node) kept)

-- a view after these steps, of which the last one is taken first
abbrev pub view_after : List Step → View → View
view_after [] v = v
view_after (s ∷ steps) v = decided (view_after steps v) s.choice s.side

-- the node to which these steps lead
abbrev pub end_of : ℕ → List Step → ℕ
end_of start [] = start
end_of start (s ∷ steps) = s.node

-- steps from node 0, or from a node whose cube is kept, lead to this node, and make this view of
-- that one's
pub record IsRetraced (kept : List KeptCube) (p : Polygraph) (node : ℕ) (v : View) : Type 0 where
  pub start : ℕ
  pub from : View
  pub seen : kept_view kept p start ≡ Some from
  pub steps : List Step
  pub leads : end_of start steps ≡ node
  pub made : v ≡ view_after steps from

-- each cube is kept as its node's view
abbrev pub AreViews : (ℕ → View) → List KeptCube → Type 0
AreViews view_of kept = All (λ k. k.view ≡ view_of k.node) kept

-- with the last step taken first, from this view each step leads to its node's view
abbrev pub AreLed : (ℕ → View) → View → List Step → Type 0
AreLed view_of v [] = Unit {0}
AreLed view_of v (s ∷ steps) = (view_after (s ∷ steps) v ≡ view_of s.node) × AreLed view_of v steps
