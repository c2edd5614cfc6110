-- A polygraph that is held as a graph and a vector of choices.
use Rattle.serializability.specs.Polygraph.{Polygraph}
use Rattle.polygraph.specs.declared.polygraph.Polygraph.TheInside.{Inside}
use Rattle.polygraph.specs.Polygraphs.{IsPolygraph}

abbrev pub polygraph_of : Inside → Polygraph
polygraph_of p = record { nodes = p.known.nodes; known = p.known.edges; choices = p.choices.items }

abbrev pub IsHeld : Inside → Type 0
IsHeld p = IsPolygraph (polygraph_of p)
