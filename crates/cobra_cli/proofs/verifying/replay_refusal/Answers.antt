use Rattle.cobra_cli.proofs.Prelude.{subst, log_of, ReplayFault, replay_fault, IsReplayFault}
use Rattle.cobra_cli.proofs.Named.{early_within, ended_within, mismatch_within}
use Rattle.cobra_cli.proofs.verifying.replay_refusal.Goals as goal

pub name_of-name-requires : goal.name_of-name-requires
name_of-name-requires c =
    early_within (log_of c.args.history.now) c.args.order.now c.in-SessionOrder.node c.requires.nodes
    (subst (λ (f : ReplayFault). IsReplayFault f (replay_fault (log_of c.args.history.now) c.args.order.now)) c.in-SessionOrder.is c.requires.reason)

pub name_of-name-requires-in-MomentOrder : goal.name_of-name-requires-in-MomentOrder
name_of-name-requires-in-MomentOrder c =
    ended_within (log_of c.args.history.now) c.args.order.now c.in-MomentOrder.node c.requires.nodes
    (subst (λ (f : ReplayFault). IsReplayFault f (replay_fault (log_of c.args.history.now) c.args.order.now)) c.in-MomentOrder.is c.requires.reason)

pub name_of-name-requires-in-ReadMismatch : goal.name_of-name-requires-in-ReadMismatch
name_of-name-requires-in-ReadMismatch c =
    mismatch_within (log_of c.args.history.now) c.args.order.now c.in-ReadMismatch.node c.in-ReadMismatch.op c.requires.nodes
    (subst (λ (f : ReplayFault). IsReplayFault f (replay_fault (log_of c.args.history.now) c.args.order.now)) c.in-ReadMismatch.is c.requires.reason)
