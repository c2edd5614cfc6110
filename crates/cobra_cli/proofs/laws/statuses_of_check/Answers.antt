use Rattle.cobra_cli.proofs.Prelude.{◌∙◌}
use Rattle.cobra_cli.proofs.Statuses.{done_order, refused_none, unknown_spent}
use Rattle.cobra_cli.proofs.laws.statuses_of_check.Goals as goal

pub returns : goal.returns
returns c = record {
  done = λ budget ss text h. (let told = done_order budget ss h.decision h.decides h.ends in (told.order, (told.serial, h.told ∙ told.text)));
  refused = λ budget ss text h. refused_none budget ss h.decision h.decides h.ends;
  unknown = λ budget ss text h. (let told = unknown_spent budget ss h.decision h.decides h.ends in (told.searched, h.told ∙ told.text));
}
