use Rattle.cobra_words.proofs.Prelude.{rules, codes, new_app, with_rule, conflicts}
use Rattle.cobra_words.proofs.commands.solve.Goals as goal

pub returns : goal.returns
returns c = record { app = c.with_formula.ensures.app (with_rule (new_app (codes "solve")) conflicts) (record { is = search rules; own = search rules }) }
