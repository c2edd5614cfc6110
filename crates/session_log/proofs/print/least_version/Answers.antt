use Rattle.session_log.proofs.Prelude.{map, sym, ◌∙◌, view}
use Rattle.session_log.proofs.Least.{least_is_one, least_is_two, least_is_three, any_viewed, stated_viewed}
use Rattle.session_log.proofs.print.least_version.Goals as goal

pub returns-then-any_with_moment : goal.returns-then-any_with_moment
returns-then-any_with_moment c = sym (least_is_three (map view c.args.sessions.now) (stated_viewed c.args.sessions.now ∙ (sym c.any_with_moment.ensures ∙ c.if-any_with_moment.true)))

pub returns-then-any_with_unknown : goal.returns-then-any_with_unknown
returns-then-any_with_unknown c =
    sym (least_is_two (map view c.args.sessions.now) (stated_viewed c.args.sessions.now ∙ (sym c.any_with_moment.ensures ∙ c.if-any_with_moment.false))
    (any_viewed c.args.sessions.now ∙ (sym c.any_with_unknown.ensures ∙ c.if-any_with_unknown.true)))

pub returns-else-any_with_unknown : goal.returns-else-any_with_unknown
returns-else-any_with_unknown c =
    sym (least_is_one (map view c.args.sessions.now) (stated_viewed c.args.sessions.now ∙ (sym c.any_with_moment.ensures ∙ c.if-any_with_moment.false))
    (any_viewed c.args.sessions.now ∙ (sym c.any_with_unknown.ensures ∙ c.if-any_with_unknown.false)))
