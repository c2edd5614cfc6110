use Rattle.cobra_words.proofs.Prelude.{rules, codes, IfOk-weaker, new_app, with_rule, strategies, form, level, with_search, HasApp, HasListApp, IsExplain}
use Rattle.cobra_words.proofs.Adding.{arg_step}
use Rattle.cobra_words.proofs.commands.explain.Goals as goal

pub returns : goal.returns
returns c = record {
  app = let base : HasApp (new_app (codes "explain")) c.after_help.result = record { is = search rules; own = search rules } in
      let f = c.format.ensures.rule in
      let s1 = arg_step base f.has c.in_ok-arg.ensures in
      let l = c.level_of_explain.ensures.rule in
      let s2 = arg_step s1 l.has c.in_ok-command.ensures in
      let app = with_rule (with_rule (new_app (codes "explain")) (form f.parser)) (level l.parser) in
      IfOk-weaker c.with_search.result (HasListApp strategies (λ p. with_search (codes "first") (codes "10000") p app)) IsExplain
      (λ x k. record { form = f.parser; takes_form = f.takes; level = l.parser; takes_level = l.takes; strategy = k.parser; takes_strategy = k.takes; has = k.has })
      (c.with_search.ensures.app app s2);
}
