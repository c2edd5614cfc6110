use Rattle.cobra_cli.proofs.Prelude.{serial_by_keys}
use Rattle.cobra_cli.proofs.verifying.verify_order.Goals as goal

pub returns-clause-verified : goal.returns-clause-verified
returns-clause-verified c = record {
  order = c.in_ok-listed.listed;
  listed = record { accepted = c.in_ok-listed.ensures.accepted; nodes = c.in_ok-listed.ensures.nodes; listed = c.in_ok-listed.ensures.order };
  serial = serial_by_keys c.args.history.now c.in_ok-listed.listed c.in_ok-replay_order.ensures.serial;
  ends = c.in_ok-fixed.ensures.status;
  told = c.in_ok-fixed.ensures.text;
}
