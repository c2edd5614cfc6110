use Rattle.audit_report.proofs.Prelude.{map, ap, ◌∙◌, IfOk-weaker, view, names_text}
use Rattle.audit_report.proofs.Names.{text_of_order}
use Rattle.audit_report.proofs.files.order_file.Goals as goal

pub returns : goal.returns
returns c = record {
  text = IfOk-weaker c.names_text.result _ _
      (λ text e ss is. e ∙ ap (λ l. names_text l c.args.order.now) c.deref.ensures.value
      ∙ text_of_order ss (map view c.args.sessions.now) c.in_ok-names.names.items c.args.order.now is (c.in_ok-names.ensures.learnt c.requires.log.learnt))
      c.names_text.ensures.text;
}
