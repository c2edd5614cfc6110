use Rattle.known_graph.proofs.Prelude.{◌≡◌, ℕ, ◌<◌, ◌≤◌, ◌++◌, ◌^◌, get_or, bit_or, reached_from}
use Rattle.known_graph.proofs.Fresh.{fresh_below}
use Rattle.known_graph.proofs.reached.add_row.Given as goal

abbrev pub invariant-loop-i : goal.invariant-loop-i
invariant-loop-i l = record {
  found : l.found.items ≡ l.initial.found.items ++ reached_from l.from (fresh_below l.row l.initial.seen l.i);
  before : (k : ℕ) → k < l.i → get_or l.seen k 0 ≡ bit_or (get_or l.initial.seen k 0) (get_or l.row k 0);
  fits : (k : ℕ) → get_or l.initial.seen k 0 < 2 ^ 64;
  behind : (k : ℕ) → l.i ≤ k → get_or l.seen k 0 ≡ get_or l.initial.seen k 0;
}
