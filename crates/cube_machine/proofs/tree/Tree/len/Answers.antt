use Rattle.cube_machine.proofs.Prelude.{◌∙◌, sym}
use Rattle.cube_machine.proofs.Cubes.{length_nodes}
use Rattle.cube_machine.proofs.tree.Tree.len.Goals as goal

pub returns : goal.returns
returns c = record { count = rw (← c.self.view_is) (c.len.ensures ∙ c.self.inside.nodes.ok.0 ∙ sym (length_nodes c.self.inside.nodes.items)) }
