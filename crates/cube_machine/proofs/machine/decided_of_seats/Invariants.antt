use Rattle.cube_machine.proofs.Prelude.{◌≡◌, [], ◌∷◌, length, root, AreNoted}
use Rattle.cube_machine.proofs.machine.decided_of_seats.Given as goal

abbrev pub invariant-loop : goal.invariant-loop
invariant-loop l = record {
  seats : length l.table.items ≡ l.counter;
  noted : AreNoted (root ∷ []) l.count l.table.items;
}
