use Rattle.polygraph.proofs.Prelude.{ℕ, ◌<◌, slice_index, Contains}
use Rattle.polygraph.proofs.fits.keeps_known.Given as goal

abbrev pub invariant-loop-v : goal.invariant-loop-v
invariant-loop-v l = record {
  rows : (a b : ℕ) → a < l.u → b < l.end → Contains l.known.edges (a, b) → slice_index l.places.places a < slice_index l.places.places b;
  row : (b : ℕ) → b < l.v → Contains l.known.edges (l.u, b) → slice_index l.places.places l.u < slice_index l.places.places b;
}

abbrev pub invariant-loop-u : goal.invariant-loop-u
invariant-loop-u l = record {
  rows : (a b : ℕ) → a < l.u → b < l.end → Contains l.known.edges (a, b) → slice_index l.places.places a < slice_index l.places.places b;
}
