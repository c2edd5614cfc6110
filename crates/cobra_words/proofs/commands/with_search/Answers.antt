use Rattle.cobra_words.proofs.Prelude.{IfOk-weaker, with_rule, strategies, strategy, budget, with_workers, with_search, HasApp, HasListApp}
use Rattle.cobra_words.proofs.Adding.{arg_step}
use Rattle.cobra_words.proofs.commands.with_search.Goals as goal

pub returns : goal.returns
returns c = record {
  app = λ a h.
      let picked = c.args.defaults.strategy.now in
      let spent = c.args.defaults.budget.now in
      let s = c.strategy.ensures.rule in
      let s1 = arg_step h s.has c.in_ok-arg.ensures in
      let s2 = arg_step s1 c.budget.ensures.rule c.in_ok-command.ensures in
      let app = with_rule (with_rule a (strategy picked s.parser)) (budget spent) in
      IfOk-weaker c.with_workers.result (HasApp (with_workers app)) (HasListApp strategies (λ p. with_search picked spent p a))
      (λ x has. record { parser = s.parser; takes = s.takes; has = has }) (c.with_workers.ensures.app app s2);
}
