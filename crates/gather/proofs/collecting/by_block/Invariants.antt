use Rattle.std.proofs.Common.{◌≡◌, ◌++◌, length}
use Rattle.gather.specs.Kept.{AreKept}
use Rattle.gather.proofs.collecting.by_block.Given as goal

abbrev pub invariant-loop-step : goal.invariant-loop-step
invariant-loop-step l =
    record {
      whole : l.yielded ++ l.step-iterator.rest.items ≡ l.fn.history.items;
      count : length l.found.items ≡ length l.blocks;
      kept : AreKept l.fn.history.items l.found.items;
    }
