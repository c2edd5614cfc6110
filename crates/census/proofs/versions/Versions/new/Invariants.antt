use Rattle.census.proofs.Prelude.{◌≡◌, [], AllByRecursion}
use Rattle.census.proofs.Sets.{Set}
use Rattle.census.proofs.versions.Versions.new.Given as goal

abbrev pub invariant-loop : goal.invariant-loop
invariant-loop l = AllByRecursion (λ (s : Set). s.keys ≡ []) l.sets.items
