use Rattle.branching.proofs.Prelude.{sym, ◌∙◌, One}
use Rattle.branching.proofs.Refuting.{forced_by, forced_otherwise}
use Rattle.branching.proofs.view.CubeView.is_forced.Goals as goal

pub returns-then-is_some : goal.returns-then-is_some
returns-then-is_some c = record {
  forced = c.if-is_some.true ∙ sym (forced_by c.args.self.now c.args.choice One (sym c.verdict-verdict.ensures.one ∙ sym c.is_some.ensures ∙ c.if-is_some.true));
}

pub returns-else-is_some : goal.returns-else-is_some
returns-else-is_some c = record {
  forced = c.is_some-else-is_some.ensures ∙ c.verdict-verdict.ensures.two ∙ forced_otherwise c.args.self.now c.args.choice (sym c.verdict-verdict.ensures.one ∙ sym c.is_some.ensures ∙ c.if-is_some.false);
}
