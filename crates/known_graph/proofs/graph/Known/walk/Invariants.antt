use Rattle.known_graph.proofs.Prelude.{◌≡◌, length, row_len}
use Rattle.known_graph.proofs.Searched.{IsSearched}
use Rattle.known_graph.proofs.graph.Known.walk.Given as goal

abbrev pub invariant-loop-place : goal.invariant-loop-place
invariant-loop-place l = record {
  room : length l.seen ≡ row_len l.self.nodes;
  searched : IsSearched l.self l.fn.u l.v l.found.items l.seen l.place;
}
