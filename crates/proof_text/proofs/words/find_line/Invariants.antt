use Rattle.proof_text.proofs.Prelude.{◌≡◌, ◌+◌, ◌^◌, ◌≤◌, length, lines, stated}
use Rattle.proof_text.proofs.words.find_line.Given as goal

abbrev pub invariant-loop-rest : goal.invariant-loop-rest
invariant-loop-rest l = (stated l.fn.number (lines l.text) ≡ stated l.number (lines l.rest)) × (l.number + length l.rest ≤ 2 ^ 63)

abbrev pub decreases-loop-rest : goal.decreases-loop-rest
decreases-loop-rest l = length l.rest
