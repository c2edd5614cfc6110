use Rattle.cobra_formulas.proofs.Prelude.{map, err_from_is_err_and, view, version_of}
use Rattle.log_definitions.proofs.Room.{room}
use Rattle.cobra_formulas.proofs.Logs.{from_reading, from_build}
use Rattle.cobra_formulas.proofs.reading.read_log.Goals as goal

pub returns-in_err-version-clause-refused : goal.returns-in_err-version-clause-refused
returns-in_err-version-clause-refused g c =
    let p = err_from_is_err_and c.from_residual.result c.from_residual.ensures.1 in
    rw (p.1, p.2) (from_reading c.args.log.now c.in_err-version.field-0.0 c.in_err-version.ensures.fault)

pub build-requires-clause-room : goal.build-requires-clause-room
build-requires-clause-room g c = room (version_of c.args.log.now) c.args.log.now (map view c.in_ok-version.sessions.items) c.in_ok-version.ensures.accepted c.in_ok-version.ensures.text

pub returns-clause-refused : goal.returns-clause-refused
returns-clause-refused g c =
    from_build c.args.log.now (map view c.in_ok-version.sessions.items) c.in_ok-version.version c.build.result
    (record { size = c.in_ok-version.ensures.accepted; legal = c.in_ok-version.ensures.legal; held = c.in_ok-version.ensures.held; lines = c.in_ok-version.ensures.text })
    c.in_ok-version.ensures.version c.build.ensures.fault
