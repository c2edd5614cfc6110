use Rattle.proof_text.proofs.Prelude.{literal_of, binary_number, binary_numbers}
use Rattle.proof_text.proofs.UpToZero.{at_bad}
use Rattle.proof_text.proofs.binary.read_literals.Goals as goal

pub returns-in_default-literal_of-clause-read : goal.returns-in_default-literal_of-clause-read
returns-in_default-literal_of-clause-read c =
    at_bad binary_number (literal_of c.args.variables) (binary_numbers c.args.words.now) c.loop-number.literals.items c.loop-number.words c.next_number.new.self c.loop-number.invariant.0
    c.in-Some.number c.in-Some.ensures.number c.in-Some.ensures.rest c.if-number-eq0.false (cc)
