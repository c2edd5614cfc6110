use Rattle.anomalies.proofs.Prelude.{◌<◌, length, sym, arith, log_of, source_within}
use Rattle.anomalies.proofs.Clashes.{entry_is, clash_new, clash_known}
use Rattle.anomalies.proofs.updates.clash_of.Goals as goal

pub bounds-updaters-get : goal.bounds-updaters-get
bounds-updaters-get c =
    let within = source_within (log_of c.args.history.now) c.args.node c.args.key c.in_ok-source.source (sym c.in_ok-source.ensures.source) in
    omega (arith, within, c.get.ensures.value, c.requires.nodes)

pub returns-in-Some-clause-clash : goal.returns-in-Some-clause-clash
returns-in-Some-clause-clash c = λ earlier h.
    (let log = log_of c.args.history.now in
    let source = sym c.in_ok-source.ensures.source in
    let within = source_within log c.args.node c.args.key c.in_ok-source.source source in
    let lt : c.in_ok-source.source < length c.args.updaters.now = omega (arith, within, c.requires.nodes) in
    let first = entry_is log c.args.key c.in_ok-source.source c.get.result earlier c.args.updaters.now c.index-updaters-get.result _ h lt c.get.ensures.value c.in-Some.ensures.node in
    sym (clash_known log c.args.key c.args.node c.in_ok-source.source c.in-Some.first earlier source first))

pub returns-in-None-clause-clash : goal.returns-in-None-clause-clash
returns-in-None-clause-clash c = λ earlier h.
    (let log = log_of c.args.history.now in
    let source = sym c.in_ok-source.ensures.source in
    let within = source_within log c.args.node c.args.key c.in_ok-source.source source in
    let lt : c.in_ok-source.source < length c.args.updaters.now = omega (arith, within, c.requires.nodes) in
    let first = entry_is log c.args.key c.in_ok-source.source c.get.result earlier c.args.updaters.now c.index-updaters-get.result _ h lt c.get.ensures.value c.in-None.ensures.node in
    sym (clash_new log c.args.key c.args.node c.in_ok-source.source earlier source first))
