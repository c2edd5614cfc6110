use Rattle.splitting.proofs.Prelude.{not, sym, ap, ◌∙◌}
use Rattle.splitting.proofs.KeyNumbers.{none_of, added}
use Rattle.splitting.proofs.numbers.KeyNumbers.add_key.Goals as goal

pub returns-in_ok-add_new : goal.returns-in_ok-add_new
returns-in_ok-add_new c =
    added c.args.self.now c.add_new.new.self c.args.key.now (sym c.held.ensures ∙ none_of c.held.result (c.is_none.ensures ∙ ap not c.if-is_none.true)) c.in_ok-add_new.ensures.next c.in_ok-add_new.ensures.held
