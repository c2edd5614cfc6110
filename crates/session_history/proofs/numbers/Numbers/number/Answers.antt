use Rattle.session_history.proofs.Prelude.{sym, ◌∙◌}
use Rattle.session_history.proofs.Seen.{listed_at, first_seen_known, number_stays}
use Rattle.session_history.proofs.numbers.Numbers.number.Goals as goal

pub returns-then-has-clause-keys : goal.returns-then-has-clause-keys
returns-then-has-clause-keys c =
    let xs = c.args.self.now.texts.items in
    first_seen_known xs c.args.key.now (listed_at xs c.index-guess.result.now c.args.key.now (c.has.ensures c.if-has.true))

pub returns-then-has-clause-number : goal.returns-then-has-clause-number
returns-then-has-clause-number c = λ later.
    let xs = c.args.self.now.texts.items in
    let at = c.has.ensures c.if-has.true in
    sym (number_stays later xs c.args.key.now (listed_at xs c.index-guess.result.now c.args.key.now at) ∙ c.requires.places.own c.index-guess.result.now c.args.key.now at)
