use Rattle.reach_rows.proofs.Prelude.{length, get_or, AreReachRows}
use Rattle.reach_rows.proofs.parts.joined.Given as goal

abbrev pub invariant-loop-part : goal.invariant-loop-part
invariant-loop-part l = AreReachRows l.known 0 (get_or l.starts (length l.yielded) 0) l.words.items
