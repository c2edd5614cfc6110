use Rattle.cobra_words.proofs.Prelude.{rules, codes, with_rule, flag}
use Rattle.cobra_words.proofs.commands.with_formula.Goals as goal

pub returns : goal.returns
returns c = record { app = λ a h. c.with_workers.ensures.app (with_rule a (flag (codes "plain"))) (let is = h.is in let own = h.own in record { is = search rules; own = search rules }) }
