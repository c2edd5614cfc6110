use Rattle.proof_text.proofs.Prelude.{◌≡◌, length, before_zero, literal_of, binary_numbers, behind_line}
use Rattle.proof_text.proofs.UpToZero.{behind}
use Rattle.proof_text.proofs.binary.read_literals.Given as goal

abbrev pub invariant-loop-number : goal.invariant-loop-number
invariant-loop-number l = (before_zero (literal_of l.variables) (binary_numbers l.fn.words) ≡ behind l.literals.items (before_zero (literal_of l.variables) (binary_numbers l.words))) × (behind_line l.fn.words ≡ behind_line l.words)

abbrev pub decreases-loop-number : goal.decreases-loop-number
decreases-loop-number l = length l.words
