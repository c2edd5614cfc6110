use Rattle.desk.proofs.Prelude.{◌≡◌, ◌++◌, length, AreFresh}
use Rattle.desk.proofs.desk.named_seats.Given as goal

abbrev pub invariant-loop-seat : goal.invariant-loop-seat
invariant-loop-seat g l = (l.yielded ++ l.seat-iterator.rest.items ≡ l.fn.unnamed.items) × AreFresh l.seats.items × (length l.seats.items ≡ length l.yielded)
