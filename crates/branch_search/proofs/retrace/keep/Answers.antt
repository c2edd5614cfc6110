use Rattle.branch_search.proofs.Prelude.{◌∙◌}
use Rattle.branch_search.proofs.retrace.keep.Goals as goal

pub returns-clause-views : goal.returns-clause-views
returns-clause-views c = λ view_of old same. c.in_ok-put.ensures.views view_of old (c.in_ok-save.ensures.saved ∙ same)
