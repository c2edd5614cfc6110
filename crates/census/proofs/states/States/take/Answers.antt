use Rattle.census.proofs.Prelude.{ap, ◌∙◌, after, KeyState}
use Rattle.census.proofs.Held.{held}
use Rattle.census.proofs.states.States.take.Goals as goal

pub returns : goal.returns
returns c = λ k.
    held c.args.self.now.table c.insert.new.self c.key-key.result.now c.after-state.result c.args.op.now c.key-key.ensures
    (c.after-state.ensures ∙ ap (λ (s : KeyState). after s c.args.op.now) c.of.ensures) c.in_ok-insert.ensures.updates k
