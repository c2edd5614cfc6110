use Rattle.reason_laws.proofs.Kept.{session_kept, read_kept, overwritten_kept, initial_kept, ended_kept}
use Rattle.reason_laws.proofs.laws.reasons_are_kept.Goals as goal

pub returns : goal.returns
returns c = record { session = session_kept; read = read_kept; overwritten = overwritten_kept; initial = initial_kept; ended = ended_kept }
