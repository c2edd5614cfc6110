use Rattle.proof_text.proofs.Prelude.{◌≡◌, length, numbers_of, before_zero, id_of}
use Rattle.proof_text.proofs.UpToZero.{behind}
use Rattle.proof_text.proofs.reading.read_ids.Given as goal

abbrev pub invariant-loop-number : goal.invariant-loop-number
invariant-loop-number l = before_zero (id_of l.is_hint) (numbers_of l.fn.words) ≡ behind l.ids.items (before_zero (id_of l.is_hint) (numbers_of l.words))

abbrev pub decreases-loop-number : goal.decreases-loop-number
decreases-loop-number l = length l.words
