use Rattle.serializability.specs.Polygraph.{arcs}
use Rattle.log_definitions.specs.Numbers.{log_of}
use Rattle.reduction.proofs.Shown.{none_closed}
use Rattle.reduction.proofs.steps.open_chains.Goals as goal

pub unwrap-requires : goal.unwrap-requires
unwrap-requires c = none_closed (arcs (log_of c.args.history.now)) (λ line. line.items) c.in_ok-found.found c.in_ok-found.ensures.cycle c.requires.acyclic
