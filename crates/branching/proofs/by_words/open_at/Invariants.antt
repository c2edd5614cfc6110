use Rattle.branching.proofs.Prelude.{◌≡◌, ◌-◌, slice_get, open_choices, open_past}
use Rattle.branching.proofs.by_words.open_at.Given as goal

abbrev pub invariant-loop-passed : goal.invariant-loop-passed
invariant-loop-passed l = slice_get (open_choices l.view) l.rank ≡ slice_get (open_past l.view.sides l.from) (l.rank - l.passed)
