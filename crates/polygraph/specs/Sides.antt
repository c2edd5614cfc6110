-- The edges of a side.
use Rattle.std.specs.Prelude.{List, [], ◌∷◌}
use Rattle.serializability.specs.Polygraph.{Edge}
use Rattle.polygraph.specs.declared.edges.Kept.{Kept}
use Rattle.polygraph.specs.declared.edges.Kept.TheVariants.{Single, Many}

abbrev pub edges_in : Kept → List Edge
edges_in (Single edge) = edge ∷ []
edges_in (Many edges) = edges.items
