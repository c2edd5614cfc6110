use Rattle.cobra_words.proofs.Prelude.{IfOk-weaker, AddsArg, levels, with_audit, HasListApp}
use Rattle.cobra_words.proofs.Adding.{arg_step}
use Rattle.cobra_words.proofs.commands.with_audit.Goals as goal

pub returns : goal.returns
returns c = record {
  app = λ a h.
      let l = c.level.ensures.rule in
      let s1 = arg_step h c.explain.ensures.rule c.in_ok-arg.ensures in
      let s2 = arg_step s1 c.faults.ensures.rule c.in_ok-arg-2.ensures in
      let s3 = arg_step s2 c.part.ensures.rule c.in_ok-arg-3.ensures in
      let s4 = arg_step s3 c.order.ensures.rule c.in_ok-arg-4.ensures in
      let s5 = arg_step s4 l.has c.in_ok-arg-5.ensures in
      let s6 = arg_step s5 c.only.ensures.rule c.in_ok-arg-6.ensures in
      let s7 = arg_step s6 c.no_moments.ensures.rule c.in_ok-arg-7.ensures in
      IfOk-weaker c.arg-8.result (AddsArg c.in_ok-arg-7.field-0 c.at_least.result) (HasListApp levels (λ p. with_audit p a))
      (λ x adds. record { parser = l.parser; takes = l.takes; has = arg_step s7 c.at_least.ensures.rule adds }) c.arg-8.ensures;
}
