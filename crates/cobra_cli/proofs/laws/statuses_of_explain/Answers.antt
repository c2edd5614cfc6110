use Rattle.cobra_cli.proofs.Statuses.{done_order, refused_none, unknown_spent}
use Rattle.cobra_cli.proofs.laws.statuses_of_explain.Goals as goal

pub returns : goal.returns
returns c = record {
  done = λ budget v format ss text h. (let told = done_order budget ss h.decision h.decides h.ends in (told.order, told.serial));
  refused = λ budget v format ss text h. refused_none budget ss h.decision h.decides h.ends;
  unknown = λ budget v format ss text h. (unknown_spent budget ss h.decision h.decides h.ends).searched;
}
