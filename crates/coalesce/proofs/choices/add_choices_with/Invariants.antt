use Rattle.coalesce.proofs.Prelude.{◌≡◌, ◌++◌, take, map, chain_view, between}
use Rattle.coalesce.proofs.choices.add_choices_with.Given as goal

abbrev pub invariant-loop-other : goal.invariant-loop-other
invariant-loop-other l = l.choices.items ≡ l.initial.choices.items ++ map (between (chain_view l.chain)) (map chain_view (take l.other-index l.others))
