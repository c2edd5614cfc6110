use Rattle.branch_search.proofs.Prelude.{◌≡◌, ◌++◌, length}
use Rattle.desk.specs.Seats.{AreNumbered}
use Rattle.branch_search.proofs.crew.jobs_of.Given as goal

abbrev pub invariant-loop-seat : goal.invariant-loop-seat
invariant-loop-seat g l =
    record {
      whole : l.yielded ++ l.seat-iterator.rest.items ≡ l.fn.seats.items;
      count : length l.jobs.items ≡ length l.yielded;
      numbers : AreNumbered (λ job. job.seat.number) l.jobs.items;
    }
