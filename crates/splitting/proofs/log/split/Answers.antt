use Rattle.splitting.proofs.Prelude.{map, sym, ◌∙◌, view, locks_of, HasRoom}
use Rattle.splitting.proofs.Whole.{names_are, widest_is, refusal_is, fit_of, named_of}
use Rattle.splitting.proofs.log.split.Goals as goal

pub returns-in-Some : goal.returns-in-Some
returns-in-Some c =
    let ss = map view c.args.sessions.now in
    let s = c.in_ok-survey.survey in
    let found = c.in_ok-survey.ensures in
    let names = c.in_ok-names.names in
    let are = names_are ss s names found c.in_ok-names.ensures.marks c.in_ok-names.ensures.numbers in
    sym (refusal_is ss s c.widest.result found (widest_is ss s names c.widest.result found are c.widest.ensures)) ∙ sym c.refusal.ensures ∙ c.in-Some.is

pub split_sessions-requires : goal.split_sessions-requires
split_sessions-requires c =
    let ss = map view c.args.sessions.now in
    let s = c.in_ok-survey.survey in
    let found = c.in_ok-survey.ensures in
    let names = c.in_ok-names.names in
    let are = names_are ss s names found c.in_ok-names.ensures.marks c.in_ok-names.ensures.numbers in
    let room : HasRoom ss = sym (refusal_is ss s c.widest.result found (widest_is ss s names c.widest.result found are c.widest.ensures)) ∙ sym c.refusal.ensures ∙ c.in_default.is in
    fit_of ss s names found are room

pub returns : goal.returns
returns c =
    let ss = map view c.args.sessions.now in
    let s = c.in_ok-survey.survey in
    let found = c.in_ok-survey.ensures in
    let names = c.in_ok-names.names in
    let are = names_are ss s names found c.in_ok-names.ensures.marks c.in_ok-names.ensures.numbers in
    let room : HasRoom ss = sym (refusal_is ss s c.widest.result found (widest_is ss s names c.widest.result found are c.widest.ensures)) ∙ sym c.refusal.ensures ∙ c.in_default.is in
    (room, c.in_ok-split.ensures (locks_of ss) (named_of ss s names found are c.requires))
