use Rattle.session_history.proofs.Prelude.{◌≡◌, ℕ, List, ◌++◌, length, map, take, entry_of, reader_view, AreReads, final_node, found_by}
use Rattle.session_history.proofs.reads.add_key.Given as goal

abbrev pub invariant-loop-reader : goal.invariant-loop-reader
invariant-loop-reader l = record {
  count : length l.reads.items ≡ length l.initial.reads.items;
  added : (n : ℕ) (g : ℕ → List (ℕ × ℕ)) → AreReads n g l.initial.reads.items
      → AreReads n (λ v. g v ++ found_by l.key (λ w. final_node (entry_of l.writes w) l.key) v (map reader_view (take l.reader-index l.readers))) l.reads.items;
}
