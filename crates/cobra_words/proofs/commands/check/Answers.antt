use Rattle.cobra_words.proofs.Prelude.{rules, codes, new_app}
use Rattle.cobra_words.proofs.commands.check.Goals as goal

pub returns : goal.returns
returns c = record { app = c.with_search.ensures.app (new_app (codes "check")) (record { is = search rules; own = search rules }) }
