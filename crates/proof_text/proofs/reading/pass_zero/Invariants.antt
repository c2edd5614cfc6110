use Rattle.proof_text.proofs.Prelude.{◌≡◌, length, numbers_of, behind_zero}
use Rattle.proof_text.proofs.reading.pass_zero.Given as goal

abbrev pub invariant-loop-number : goal.invariant-loop-number
invariant-loop-number l = behind_zero (numbers_of l.fn.words) ≡ behind_zero (numbers_of l.words)

abbrev pub decreases-loop-number : goal.decreases-loop-number
decreases-loop-number l = length l.words
