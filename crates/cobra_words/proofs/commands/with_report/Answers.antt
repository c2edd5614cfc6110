use Rattle.cobra_words.proofs.Prelude.{IfOk-weaker, AddsArg, reports, with_report, HasListApp}
use Rattle.cobra_words.proofs.Adding.{arg_step}
use Rattle.cobra_words.proofs.commands.with_report.Goals as goal

pub returns : goal.returns
returns c = record {
  app = λ a h.
      let f = c.report_format.ensures.rule in
      let s1 = arg_step h f.has c.in_ok-arg.ensures in
      let s2 = arg_step s1 c.quiet.ensures.rule c.in_ok-arg-2.ensures in
      let s3 = arg_step s2 c.seconds.ensures.rule c.in_ok-arg-3.ensures in
      IfOk-weaker c.arg-4.result (AddsArg c.in_ok-arg-3.field-0 c.progress.result) (HasListApp reports (λ p. with_report p a))
      (λ x adds. record { parser = f.parser; takes = f.takes; has = arg_step s3 c.progress.ensures.rule adds }) c.arg-4.ensures;
}
