use Rattle.judging.proofs.Prelude.{◌∷◌, List, length, map, sym, ap, ◌∙◌, subst, ClientSession, view, Session, Apart-from_IsDistinct, IsDistinct-from_Apart, ops_in, written, keys_in, IsLog, resolved_is_log}
use Rattle.judging.proofs.Levels.{keys_resolved}
use Rattle.judging.proofs.whole.judge_whole.Goals as goal

pub resolve-requires-clause-writes : goal.resolve-requires-clause-writes
resolve-requires-clause-writes g c =
    let ops = written (ops_in (map view c.args.sessions.items)) in
    let all = Apart-from_IsDistinct (0 ∷ ops) c.requires.sound.writes in
    IsDistinct-from_Apart ops all.1

pub log_at-requires : goal.log_at-requires
log_at-requires g c =
    let P : List Session → Type 0 = λ l. IsLog (map view l) in
    record { log = subst P (sym c.deref.ensures.value) (subst IsLog (sym c.in_ok-sessions.ensures.resolved) (resolved_is_log (map view c.args.sessions.items) c.requires.legal c.requires.sound)) }

pub count_keys-requires-clause-log : goal.count_keys-requires-clause-log
count_keys-requires-clause-log g c =
    let P : List Session → Type 0 = λ l. IsLog (map view l) in
    subst P (sym c.deref-3.ensures.value) (subst IsLog (sym c.in_ok-sessions.ensures.resolved) (resolved_is_log (map view c.args.sessions.items) c.requires.legal c.requires.sound))

pub judge-requires-clause-log : goal.judge-requires-clause-log
judge-requires-clause-log g c κs within =
    let P : List Session → Type 0 = λ l. IsLog (map view l) in
    subst P (sym c.deref-5.ensures.value) (subst IsLog (sym c.in_ok-sessions.ensures.resolved) (resolved_is_log (map view c.args.sessions.items) c.requires.legal c.requires.sound))

pub returns-clause-keys : goal.returns-clause-keys
returns-clause-keys g c =
    let ss = map view c.args.sessions.items in
    let known = ap (map view) c.deref-3.ensures.value ∙ c.in_ok-sessions.ensures.resolved in
    c.in_ok-keys.ensures
    ∙ ap (λ (l : List ClientSession). length (keys_in l)) known
    ∙ ap length (keys_resolved ss)
