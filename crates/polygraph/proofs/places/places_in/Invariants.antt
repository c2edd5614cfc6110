use Rattle.polygraph.proofs.Placed.{PlacedSoFar}
use Rattle.polygraph.proofs.places.places_in.Given as goal

abbrev pub invariant-loop-index : goal.invariant-loop-index
invariant-loop-index l = PlacedSoFar l.n l.order l.index l.places
