use Rattle.std.proofs.Common.{◌≡◌, ◌+◌, ◌-◌, ◌≤◌, length, take, drop}
use Rattle.std.specs.Io.KnownBytes.{Appends}
use Rattle.output.proofs.sink.put_all.Given as goal

abbrev pub invariant-loop-rest : goal.invariant-loop-rest
invariant-loop-rest g l = record {
  from : l.written ≤ l.out;
  within : l.out ≤ l.written + length l.piece;
  left : l.rest ≡ drop (l.out - l.written) l.piece;
  went : Appends (g.W.Sink.bytes l.initial.sink) (g.W.Sink.bytes l.sink) (take (l.out - l.written) l.piece);
  sound : g.W.Sink.failures l.sink ≡ g.W.Sink.failures l.initial.sink;
}

abbrev pub decreases-loop-rest : goal.decreases-loop-rest
decreases-loop-rest g l = length l.rest
