use Rattle.proof_text.proofs.Prelude.{length}
use Rattle.proof_text.proofs.binary.+sevens.Given as goal

abbrev pub decreases-sevens : goal.decreases-sevens
decreases-sevens l = length l.word.now
