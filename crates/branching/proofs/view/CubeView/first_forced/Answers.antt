use Rattle.branching.proofs.Prelude.{sym, ◌∙◌}
use Rattle.branching.proofs.Unforced.{unforced_joined, first_forced_is, none_forced_is}
use Rattle.branching.proofs.view.CubeView.first_forced.Goals as goal

pub returns-then-is_forced : goal.returns-then-is_forced
returns-then-is_forced c = record {
  choice = sym (first_forced_is c.args.self.now c.in-Some.choice (sym c.is_open.ensures.open ∙ c.if-is_open.true) (sym c.is_forced.ensures.forced ∙ c.if-is_forced.true)
      (unforced_joined c.args.self.now 0 c.loop-choice.from c.in-Some.choice c.loop-choice.invariant c.in-Some.ensures.below));
}

pub returns : goal.returns
returns c = record {
  choice = sym (none_forced_is c.args.self.now (λ to. unforced_joined c.args.self.now 0 c.loop-choice.from to c.loop-choice.invariant (c.in_default.ensures.none to)));
}
