use Rattle.dimacs.proofs.Prelude.{ℕ, List, map, Item, number_item, words, Knows}
use Rattle.dimacs.proofs.Takings.{IsAmid}
use Rattle.dimacs.proofs.reading.Reading.take_numbers.Given as goal

abbrev pub invariant-loop-word : goal.invariant-loop-word
invariant-loop-word l =
    (vars : ℕ) (before : List Item) → Knows vars before l.fn.self →
    IsAmid vars before l.line (map number_item (words l.fn.numbers.0.now)) (map number_item (words l.word-iterator.0.now)) l.self
