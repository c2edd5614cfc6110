use Rattle.reasons.proofs.Prelude.{refl}
use Rattle.reasons.proofs.Overwrites.{none_overwritten}
use Rattle.reasons.proofs.overwritten.overwritten_by.Goals as goal

pub returns-in_default-clause-none : goal.returns-in_default-clause-none
returns-in_default-clause-none c =
    let none = rw c.in_default.is at c.least_write.ensures in
    none_overwritten c.args.history.now c.requires.clean c.args.a c.args.b none

pub read_of-requires-clause-reads : goal.read_of-requires-clause-reads
read_of-requires-clause-reads c =
    let s = (c.in-Some.ensures.own c.in-Some.write refl).1.alike in
    (s.from, s.first)
