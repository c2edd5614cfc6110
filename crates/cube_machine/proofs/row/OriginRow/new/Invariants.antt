use Rattle.cube_machine.proofs.Prelude.{◌≡◌, length}
use Rattle.cube_machine.proofs.row.OriginRow.new.Given as goal

abbrev pub invariant-loop : goal.invariant-loop
invariant-loop l = length l.words.items ≡ l.counter
