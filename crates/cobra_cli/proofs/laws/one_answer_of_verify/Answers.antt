use Rattle.cobra_cli.proofs.OneVerified.{one_accepted, one_refused, accepted_apart}
use Rattle.cobra_cli.proofs.laws.one_answer_of_verify.Goals as goal

pub returns : goal.returns
returns c = record { accepted = one_accepted; refused = one_refused; apart = accepted_apart }
