use Rattle.numbered_log.proofs.Prelude.{◌≡◌, drop, mark_behind, mark_of}
use Rattle.numbered_log.proofs.mark.mark_of.Given as goal

abbrev pub invariant-loop-byte : goal.invariant-loop-byte
invariant-loop-byte l = mark_behind l.mark (drop l.byte-index l.fn.key) ≡ mark_of l.fn.key
