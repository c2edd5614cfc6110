use Rattle.coalesce.proofs.Prelude.{◌≡◌, ◌++◌, drop, map, chain_view, among}
use Rattle.coalesce.proofs.choices.add_choices_among.Given as goal

abbrev pub invariant-loop-index : goal.invariant-loop-index
invariant-loop-index l = l.choices.items ++ among (map chain_view (drop l.index l.chains)) ≡ l.initial.choices.items ++ among (map chain_view l.chains)
