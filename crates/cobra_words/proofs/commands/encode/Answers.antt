use Rattle.cobra_words.proofs.Prelude.{rules, codes, new_app}
use Rattle.cobra_words.proofs.commands.encode.Goals as goal

pub returns : goal.returns
returns c = record { app = c.with_formula.ensures.app (new_app (codes "encode")) (record { is = search rules; own = search rules }) }
