use Rattle.level_refutations.proofs.Prelude.{sym, ◌∙◌}
use Rattle.level_refutations.proofs.Standing.{any_map}
use Rattle.level_refutations.proofs.whys.writes_in.Goals as goal

pub returns : goal.returns
returns c = c.writes_each.ensures ∙ sym (simp any_map)
