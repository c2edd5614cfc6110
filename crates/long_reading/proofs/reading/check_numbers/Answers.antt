use Rattle.long_reading.proofs.Prelude.{◌≡◌, [], map, sym, ap, ◌∙◌, view, first_line, log_lines, repeated, sessions_from, writes_from, by_line}
use Rattle.long_reading.proofs.Stating.{sessions_ascend, writes_ascend}
use Rattle.long_reading.proofs.Accepting.{ascend, session_found, write_found, none_found}
use Rattle.long_reading.proofs.reading.check_numbers.Goals as goal

pub first_repeated-requires : goal.first_repeated-requires
first_repeated-requires c =
    let ls = log_lines (map view c.args.sessions.now) in
    let n = c.first_line.result in
    ascend c.as_mut_slice.result.now (sessions_from n ls) n (ap by_line c.as_mut_slice.ensures.value ∙ c.in_ok-stated.ensures.sessions) (sessions_ascend n ls)

pub returns-in-Some-clause-fault : goal.returns-in-Some-clause-fault
returns-in-Some-clause-fault c =
    let ls = log_lines (map view c.args.sessions.now) in
    let stated : by_line c.as_mut_slice.result.now ≡ sessions_from (first_line c.args.version) ls = ap by_line c.as_mut_slice.ensures.value ∙ (c.in_ok-stated.ensures.sessions ∙ ap (λ n. sessions_from n ls) c.first_line.ensures) in
    session_found (first_line c.args.version) (map view c.args.sessions.now) c.in-Some.line (sym (sym c.in-Some.is ∙ (c.first_repeated.ensures ∙ ap (repeated []) stated)))

pub first_repeated-requires-2 : goal.first_repeated-requires-2
first_repeated-requires-2 c =
    let ls = log_lines (map view c.args.sessions.now) in
    let n = c.first_line.result in
    ascend c.as_mut_slice-2.result.now (writes_from n ls) n (ap by_line c.as_mut_slice-2.ensures.value ∙ c.in_ok-stated.ensures.writes) (writes_ascend n ls)

pub returns-in-Some-first_repeated-clause-fault : goal.returns-in-Some-first_repeated-clause-fault
returns-in-Some-first_repeated-clause-fault c =
    let ls = log_lines (map view c.args.sessions.now) in
    let sessions : by_line c.as_mut_slice.result.now ≡ sessions_from (first_line c.args.version) ls = ap by_line c.as_mut_slice.ensures.value ∙ (c.in_ok-stated.ensures.sessions ∙ ap (λ n. sessions_from n ls) c.first_line.ensures) in
    let writes : by_line c.as_mut_slice-2.result.now ≡ writes_from (first_line c.args.version) ls = ap by_line c.as_mut_slice-2.ensures.value ∙ (c.in_ok-stated.ensures.writes ∙ ap (λ n. writes_from n ls) c.first_line.ensures) in
    write_found (first_line c.args.version) (map view c.args.sessions.now) c.in-Some-first_repeated.line
    (sym (sym c.in_default.is ∙ (c.first_repeated.ensures ∙ ap (repeated []) sessions)))
    (sym (sym c.in-Some-first_repeated.is ∙ (c.first_repeated-2.ensures ∙ ap (repeated []) writes)))

pub returns-clause-accepted : goal.returns-clause-accepted
returns-clause-accepted c =
    let ls = log_lines (map view c.args.sessions.now) in
    let sessions : by_line c.as_mut_slice.result.now ≡ sessions_from (first_line c.args.version) ls = ap by_line c.as_mut_slice.ensures.value ∙ (c.in_ok-stated.ensures.sessions ∙ ap (λ n. sessions_from n ls) c.first_line.ensures) in
    let writes : by_line c.as_mut_slice-2.result.now ≡ writes_from (first_line c.args.version) ls = ap by_line c.as_mut_slice-2.ensures.value ∙ (c.in_ok-stated.ensures.writes ∙ ap (λ n. writes_from n ls) c.first_line.ensures) in
    none_found (first_line c.args.version) (map view c.args.sessions.now)
    (sym (sym c.in_default.is ∙ (c.first_repeated.ensures ∙ ap (repeated []) sessions)))
    (sym (sym c.in_default-first_repeated.is ∙ (c.first_repeated-2.ensures ∙ ap (repeated []) writes)))
