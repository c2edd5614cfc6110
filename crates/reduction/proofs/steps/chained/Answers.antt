use Rattle.std.proofs.Common.{subst}
use Rattle.reach_laws.specs.Reach.{Graph, IsCyclic}
use Rattle.reduction.proofs.Shown.{ok_its_orders}
use Rattle.reduction.proofs.steps.chained.Goals as goal

pub open_chains-requires-clause-acyclic : goal.open_chains-requires-clause-acyclic
open_chains-requires-clause-acyclic c = subst (λ (known : Graph). IsCyclic known.edges → ⊥) c.requires.arcs c.requires.acyclic

pub returns-clause-orders : goal.returns-clause-orders
returns-clause-orders c = ok_its_orders c.args.history.now c.requires.clean c.coalesce.result c.coalesce.ensures.same_orders
