use Rattle.audit_command.proofs.Prelude.{map, subst, IfOk-weaker, view, IsLogAt}
use Rattle.audit_command.proofs.Points.{own_text, points_order}
use Rattle.audit_command.proofs.Resolved.{never_without_room}
use Rattle.audit_command.proofs.telling.judged_order.Goals as goal

pub returns-in-Itself : goal.returns-in-Itself
returns-in-Itself c =
    let known = map view c.args.log.now.sessions.now in
    let level = c.args.options.now.means.level in
    let at = subst (IsLogAt level known) c.in-Itself.is c.requires.at in
    record {
      text = λ ss same order. IfOk-weaker c.order_file.result _ _
          (λ text e. own_text level ss c.args.order.now text.items at order (e ss same))
          c.order_file.ensures.text;
    }

pub returns-in-Split : goal.returns-in-Split
returns-in-Split c =
    let known = map view c.args.log.now.sessions.now in
    let level = c.args.options.now.means.level in
    let at = subst (IsLogAt level known) c.in-Split.is c.requires.at in
    record {
      text = λ ss same order. IfOk-weaker c.points_text.result _ _
          (λ text e. points_order level ss known c.args.order.now text.items at.0 c.requires.log same order e)
          c.points_text.ensures.text;
    }

pub returns-in-NoRoom : goal.returns-in-NoRoom
returns-in-NoRoom c =
    let known = map view c.args.log.now.sessions.now in
    let level = c.args.options.now.means.level in
    let at = subst (IsLogAt level known) c.in-NoRoom.is c.requires.at in
    record { text = λ ss same order. absurd (never_without_room level ss known c.in-NoRoom.field-0 same at.0 at.1 order.room) }
