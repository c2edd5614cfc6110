use Rattle.log_laws.proofs.Sound.{sound_where_legal}
use Rattle.log_laws.proofs.laws.sound_where_legal.Goals as goal

pub returns : goal.returns
returns c = sound_where_legal
