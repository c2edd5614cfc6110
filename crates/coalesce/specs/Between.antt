-- Choices between the chains of a key.
use Rattle.std.specs.Prelude.{List, [], ◌∷◌, ◌++◌, map}
use Rattle.serializability.specs.Polygraph.{Edge, Choice}
use Rattle.chain_laws.specs.Chains.{edges_to}
use Rattle.write_chains.specs.Views.{ChainView}

-- the one chain stands before the other
abbrev pub before : ChainView → ChainView → List Edge
before a b = edges_to a.tail b.head a.readers

-- the one first, or the other
abbrev pub between : ChainView → ChainView → Choice
between a b = record { one = before a b; two = before b a }

-- each chain with each that comes behind it
abbrev pub among : List ChainView → List Choice
among [] = []
among (a ∷ rest) = map (between a) rest ++ among rest
