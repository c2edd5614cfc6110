use Rattle.long_reading.proofs.Prelude.{map, take, length, view, AreRead}
use Rattle.long_reading.proofs.Read.{whole_of}
use Rattle.long_reading.proofs.reading.joined.Given as goal

abbrev pub invariant-loop-part : goal.invariant-loop-part
invariant-loop-part l = AreRead l._log (whole_of (take (length l.yielded) (map (λ part. part.now) l.parts))) (map view l.sessions.items)
