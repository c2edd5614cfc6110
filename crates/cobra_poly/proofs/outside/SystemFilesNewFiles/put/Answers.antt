use Rattle.std.proofs.Common.{[], refl}
use Rattle.cobra_poly.proofs.outside.SystemFilesNewFiles.put.Goals as goal

pub returns-in-Ok-clause-put : goal.returns-in-Ok-clause-put
returns-in-Ok-clause-put g c = record { files = tt; failures = refl }

pub returns-in-Err-clause-failed : goal.returns-in-Err-clause-failed
returns-in-Err-clause-failed g c = record { begun = []; is = tt; files = tt; failures = c.one_more-self.ensures.more }
