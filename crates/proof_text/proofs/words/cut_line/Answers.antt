use Rattle.proof_text.proofs.Prelude.{ap, take_rest, stated}
use Rattle.proof_text.proofs.Cutting.{lines_at}
use Rattle.proof_text.proofs.words.cut_line.Goals as goal

pub returns-in-Some-clause-lines : goal.returns-in-Some-clause-lines
returns-in-Some-clause-lines c = λ n. rw take_rest (ap (stated n) (lines_at c.args.text.now c.in-Some.end c.in-Some.ensures))
