use Rattle.std.proofs.Common.{◌≡◌, ◌++◌, length, map}
use Rattle.session_log.specs.Text.{view}
use Rattle.gather.proofs.Reading.{IsReadTo}
use Rattle.gather.proofs.collecting.sessions_of.Given as goal

abbrev pub invariant-loop-piece : goal.invariant-loop-piece
invariant-loop-piece l =
    record {
      whole : l.yielded ++ l.piece-iterator.rest.items ≡ l.fn.found.items;
      read : IsReadTo l._log (length l.yielded) (map view l.sessions.items);
    }
