use Rattle.part_places.proofs.Prelude.{◌≡◌, ℕ, Bool, filter, stays}
use Rattle.part_places.proofs.Matched.{IsMatched}
use Rattle.part_places.proofs.txn.lines_of.Given as goal

abbrev pub invariant-loop-at : goal.invariant-loop-at
invariant-loop-at l = (known : ℕ → Bool) → l.kept ≡ filter (stays known) l.ops → IsMatched known l.ops l.kept l.first l.lines.items l.at
