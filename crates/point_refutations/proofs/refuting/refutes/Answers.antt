use Rattle.std.proofs.Common.{map, sym, ◌∙◌}
use Rattle.session_log.specs.Text.{view}
use Rattle.point_refutations.proofs.Orderless.{no_order}
use Rattle.point_refutations.proofs.refuting.refutes.Goals as goal

pub returns-clause-none : goal.returns-clause-none
returns-clause-none c = λ t. no_order c.args.is_locked (map view c.args.sessions.now) c.args.refutation.now (sym c.is_right.ensures ∙ t)
