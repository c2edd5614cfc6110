use Rattle.cobra_words.proofs.Prelude.{rules, codes, new_app, with_rule, required_file}
use Rattle.cobra_words.proofs.commands.refute.Goals as goal

pub returns : goal.returns
returns c = record { app = c.with_formula.ensures.app (with_rule (new_app (codes "refute")) (required_file (codes "proof"))) (record { is = search rules; own = search rules }) }
