use Rattle.cobra_words.proofs.Prelude.{rules, codes, new_app}
use Rattle.cobra_words.proofs.commands.split.Goals as goal

pub returns : goal.returns
returns c = record { app = c.with_workers.ensures.app (new_app (codes "split")) (record { is = search rules; own = search rules }) }
