use Rattle.proof_text.proofs.Prelude.{number_of, numbers_of, id_of}
use Rattle.proof_text.proofs.UpToZero.{at_bad}
use Rattle.proof_text.proofs.reading.read_ids.Goals as goal

pub returns-in_default-id_of : goal.returns-in_default-id_of
returns-in_default-id_of c =
    at_bad number_of (id_of c.args.is_hint) (numbers_of c.args.words.now) c.loop-number.ids.items c.loop-number.words c.next_number.new.self c.loop-number.invariant
    c.in-Some.number c.in-Some.ensures.number c.in-Some.ensures.rest c.if-number-eq0.false (cc)
