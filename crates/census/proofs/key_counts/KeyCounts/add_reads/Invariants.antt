use Rattle.census.proofs.Prelude.{◌≡◌, ℕ, ◌+◌, List, take, count_by, bytes_eq, count_in}
use Rattle.census.proofs.key_counts.KeyCounts.add_reads.Given as goal

abbrev pub invariant-loop-key : goal.invariant-loop-key
invariant-loop-key l = (k : List ℕ) → count_in l.self.table k ≡ count_in l.initial.self.table k + count_by (λ f. bytes_eq k f.1.now) (take l.key-index l.faults)
