use Rattle.session_log.specs.Version.{version_of}
use Rattle.long_log_definitions.proofs.Texts.{lines_within}
use Rattle.long_log_definitions.proofs.laws.lines_within_the_limit.Goals as goal

pub returns : goal.returns
returns c = λ text ss w. lines_within (version_of text) text ss w.size w.lines
