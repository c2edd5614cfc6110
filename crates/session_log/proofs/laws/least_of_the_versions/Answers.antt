use Rattle.session_log.proofs.Least.{least_holds, least_is_least}
use Rattle.session_log.proofs.laws.least_of_the_versions.Goals as goal

pub returns : goal.returns
returns c = record { held = least_holds; least = least_is_least }
