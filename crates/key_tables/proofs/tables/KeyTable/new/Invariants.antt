use Rattle.std.proofs.Common.{◌≡◌, []}
use Rattle.std.specs.List.{AllByRecursion}
use Rattle.key_tables.proofs.Parts.{Table}
use Rattle.key_tables.proofs.tables.KeyTable.new.Given as goal

abbrev pub invariant-loop : goal.invariant-loop
invariant-loop l = AllByRecursion (λ (t : Table). t.entries ≡ []) l.tables.items
