use Rattle.branching.proofs.Prelude.{◌-◌, AreUnforced}
use Rattle.branching.proofs.view.CubeView.first_forced.Given as goal

abbrev pub invariant-loop-choice : goal.invariant-loop-choice
invariant-loop-choice l = AreUnforced l.self 0 l.from

abbrev pub decreases-loop-choice : goal.decreases-loop-choice
decreases-loop-choice l = 100000 - l.from
