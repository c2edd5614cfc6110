use Rattle.session_history.proofs.Prelude.{ap, sym, ◌∙◌, map, view, first_line, list_fault, rules_where_no_fault, no_fault_where_rules}
use Rattle.session_history.proofs.log.History.build.Goals as goal

pub of-requires-clause-sound : goal.of-requires-clause-sound
of-requires-clause-sound c =
    let ss = map view c.args.sessions.items in
    let n = first_line c.args.version in
    let none = ap (λ xs. list_fault n (map view xs)) (sym c.deref.ensures.value) ∙ c.in_ok-accepted.ensures.accepted in
    record { legal = c.requires.legal; sessions = no_fault_where_rules 1 ss (rules_where_no_fault n ss none) }
