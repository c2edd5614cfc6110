use Rattle.known_graph.proofs.Prelude.{◌≡◌, ℕ, ◌+◌, ◌<◌, ◌≤◌, ◌++◌, bit_at, reached_from, word_numbers}
use Rattle.known_graph.proofs.reached.add_word.Given as goal

abbrev pub invariant-loop-rest : goal.invariant-loop-rest
invariant-loop-rest l = record {
  all : l.found.items ++ reached_from l.from (word_numbers l.first l.rest) ≡ l.initial.found.items ++ reached_from l.from (word_numbers l.first l.word);
  nodes : (b : ℕ) → b < 64 → bit_at l.rest b ≡ 1 → l.first + b ≤ 1000;
}

abbrev pub decreases-loop-rest : goal.decreases-loop-rest
decreases-loop-rest l = l.rest
