use Rattle.long_reading.proofs.Prelude.{◌≡◌, None, List, length, map, ap, subst, arith, err_from_is_err_and, view, version_of, first_line, IsFault, Session, log_lines, list_fault}
use Rattle.session_log.specs.declared.version.Version.{Version}
use Rattle.long_log_definitions.proofs.Texts.{lines_within}
use Rattle.long_reading.proofs.Accepting.{text_is, refused_by_size, refused_by_grammar, refused_by_list, is_long}
use Rattle.long_reading.proofs.reading.read_long_log.Goals as goal

pub returns-in_err-version-clause-refused : goal.returns-in_err-version-clause-refused
returns-in_err-version-clause-refused g c =
    let e = err_from_is_err_and c.from_residual.result c.from_residual.ensures.1 in
    rw (e.1, e.2) (refused_by_size c.args.log.now c.in_err-version.field-0.0 c.in_err-version.ensures.fault)

pub returns-in_err-sessions-clause-refused : goal.returns-in_err-sessions-clause-refused
returns-in_err-sessions-clause-refused g c =
    let e = err_from_is_err_and c.from_residual-in_err-sessions.result c.from_residual-in_err-sessions.ensures.1 in
    rw (e.1, e.2) (refused_by_grammar c.args.log.now c.in_err-sessions.field-0.0 c.in_ok-version.ensures.accepted c.in_err-sessions.ensures.fault)

pub check_numbers-requires : goal.check_numbers-requires
check_numbers-requires g c =
    let log = c.args.log.now in
    let sessions = c.in_ok-sessions.sessions.items in
    let within = lines_within (version_of log) log (map view sessions) c.in_ok-version.ensures.accepted (text_is log (map view sessions) c.in_ok-sessions.ensures.read) in
    let same = ap (λ (ss : List Session). length (log_lines (map view ss))) c.deref-2.ensures.value in
    record { room = omega (arith, within, same) }

pub returns-in_err-check_numbers-clause-refused : goal.returns-in_err-check_numbers-clause-refused
returns-in_err-check_numbers-clause-refused g c =
    let log = c.args.log.now in
    let f = c.in_err-check_numbers.field-0.0 in
    let P : List Session → Type 0 = λ ss. IsFault f (list_fault (first_line c.in_ok-version.version) (map view ss)) in
    let Q : Version → Type 0 = λ v. IsFault f (list_fault (first_line v) (map view c.in_ok-sessions.sessions.items)) in
    let e = err_from_is_err_and c.from_residual-in_err-check_numbers.result c.from_residual-in_err-check_numbers.ensures.1 in
    rw (e.1, e.2) (refused_by_list log (map view c.in_ok-sessions.sessions.items) f c.in_ok-version.ensures.accepted c.in_ok-sessions.ensures.read
    (subst Q c.in_ok-version.ensures.version (subst P c.deref-2.ensures.value c.in_err-check_numbers.ensures.fault)))

pub returns-clause-accepted : goal.returns-clause-accepted
returns-clause-accepted g c =
    let log = c.args.log.now in
    let P : List Session → Type 0 = λ ss. list_fault (first_line c.in_ok-version.version) (map view ss) ≡ None in
    let Q : Version → Type 0 = λ v. list_fault (first_line v) (map view c.in_ok-sessions.sessions.items) ≡ None in
    is_long log (map view c.in_ok-sessions.sessions.items) c.in_ok-version.ensures.accepted c.in_ok-sessions.ensures.read
    (subst Q c.in_ok-version.ensures.version (subst P c.deref-2.ensures.value c.in_ok-check_numbers.ensures.accepted))
