use Rattle.cube_machine.proofs.Prelude.{◌∙◌, sym, is_solved}
use Rattle.cube_machine.proofs.Cubes.{any_mark}
use Rattle.cube_machine.proofs.tree.Tree.has_solved.Goals as goal

pub returns : goal.returns
returns c = record { solved = rw (← c.self.view_is) (c.self.invariant.0.found ∙ sym (any_mark is_solved c.self.inside.nodes.items)) }
