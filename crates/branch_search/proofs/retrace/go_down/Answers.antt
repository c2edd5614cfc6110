use Rattle.branch_search.proofs.Prelude.{◌∙◌}
use Rattle.branch_search.proofs.retrace.go_down.Goals as goal

pub returns-in_ok-keep-clause-views : goal.returns-in_ok-keep-clause-views
returns-in_ok-keep-clause-views c = λ view_of old same. c.in_ok-keep.ensures.views view_of old (c.in-Some.ensures.decided ∙ same)
