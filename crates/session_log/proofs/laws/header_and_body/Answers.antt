use Rattle.session_log.proofs.Versions.{header_and_body, header_lines, first_is, header_tells}
use Rattle.session_log.proofs.laws.header_and_body.Goals as goal

pub returns : goal.returns
returns c = record { text = header_and_body; lines = header_lines; first = first_is; told = header_tells }
