use Rattle.census.proofs.Prelude.{◌≡◌, ◌++◌, List, map}
use Rattle.census.proofs.Lines.{Entry, line_of}
use Rattle.census.proofs.Ranks.{AreTop}
use Rattle.census.proofs.worst.worst_of.Given as goal

abbrev pub invariant-loop-key : goal.invariant-loop-key
invariant-loop-key l = record {
  seen : List Entry;
  cut : seen ++ l.key-iterator ≡ l.counts.table.entries;
  top : AreTop (map line_of seen) l.worst.items;
}
