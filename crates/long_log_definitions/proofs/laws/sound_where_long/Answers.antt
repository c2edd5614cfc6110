use Rattle.long_log_definitions.proofs.Texts.{sound_where_long}
use Rattle.long_log_definitions.proofs.laws.sound_where_long.Goals as goal

pub returns : goal.returns
returns c = sound_where_long
