use Rattle.session_history.proofs.Prelude.{◌-◌, map, length, view, IsTaking, order_of, found_in}
use Rattle.session_history.proofs.Worked.{Worked}
use Rattle.session_history.proofs.taken.taken_among.Given as goal

abbrev pub invariant-work : goal.invariant-work
invariant-work l = record {
  taking : IsTaking l.taking;
  worked : Worked (map view l.sessions) (order_of l.taking) (found_in l.writes) l.done;
}

abbrev pub decreases-work : goal.decreases-work
decreases-work l = length l.sessions - l.done
