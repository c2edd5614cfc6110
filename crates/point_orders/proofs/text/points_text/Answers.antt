use Rattle.std.proofs.Common.{map, ap, ◌∙◌}
use Rattle.std.proofs.lemmas.Result.{IfOk-weaker}
use Rattle.session_log.specs.Text.{view}
use Rattle.point_orders.specs.Halves.{halves_text}
use Rattle.point_orders.proofs.Points.{text_is}
use Rattle.point_orders.proofs.text.points_text.Goals as goal

pub returns : goal.returns
returns c = record {
  text = IfOk-weaker c.halves_text.result _ _
      (λ text e. e ∙ ap (λ l. halves_text l c.args.order.now) (c.deref.ensures.value ∙ c.in_ok-halves.ensures.halves)
      ∙ text_is (map view c.args.sessions.now) c.args.order.now c.requires.learnt)
      c.halves_text.ensures.text;
}
