use Rattle.anomalies.proofs.Prelude.{◌<◌, length, refl, sym, ap, ◌∙◌, arith, anomaly_at, log_of}
use Rattle.serializability.specs.declared.event.Event.TheVariants as event
use Rattle.anomalies.proofs.Marks.{marked_none}
use Rattle.anomalies.proofs.Scan.{first_behind, first_behind-all}
use Rattle.anomalies.proofs.Sound.{sound}
use Rattle.anomalies.proofs.Turns.{Turn, Looked, key_within, scanned, found_here, none_here, marked_next}
use Rattle.anomalies.proofs.reads.node_anomaly.Goals as goal

pub loop-place-init : goal.loop-place-init
loop-place-init c = record { first = refl; marked = marked_none c.args.node c.args.marks.now c.requires.earlier }

within : (c : goal.After-key) → c.key.result < length c.loop-place.marks
within c =
    let log = log_of c.args.history.now in
    let ops = c.events_of-event-items.result.now in
    let turn : Turn log c.args.node ops c.loop-place.place =
    record { own = c.events_of-event-items.ensures.events; within = c.loop-place-test.true; low = c.requires.low; high = c.requires.high } in
    let below = key_within log c.args.node ops c.loop-place.place (event.Read 0 0) (sound c.args.history.now c.requires.well_formed) turn in
    omega (arith, below, c.key.ensures, c.loop-place.auto.marks, c.requires.keys)

pub bounds-marks-key : goal.bounds-marks-key
bounds-marks-key c = within c

pub offset_bounds-marks-key : goal.offset_bounds-marks-key
offset_bounds-marks-key c = omega (arith, within c)

pub returns-in-Some-clause-anomaly : goal.returns-in-Some-clause-anomaly
returns-in-Some-clause-anomaly c =
    let log = log_of c.args.history.now in
    let ops = c.events_of-event-items.result.now in
    let turn : Turn log c.args.node ops c.loop-place.place =
    record { own = c.events_of-event-items.ensures.events; within = c.loop-place-test.true; low = c.requires.low; high = c.requires.high } in
    let looked : Looked log c.args.node ops c.loop-place.place (event.Read 0 0) c.loop-place.marks c.key.result c.index-marks-key.result c.used_by-used.result = record {
      turn = turn;
      sound = sound c.args.history.now c.requires.well_formed;
      keys = c.loop-place.auto.marks ∙ c.requires.keys;
      marked = c.loop-place.invariant.marked;
      key_is = c.key.ensures;
      used_is = c.used_by-used.ensures.used;
    } in
    let here = scanned _ _ _ _ _ _ _ _ _ _ looked c.in-Some.ensures.anomaly in
    sym (ap (λ l. first_behind (anomaly_at log) c.args.node l 0) (sym c.events_of-event-items.ensures.events) ∙ c.loop-place.invariant.first ∙ found_here log c.args.node ops c.loop-place.place (event.Read 0 0) c.in-Some.kind turn here)

pub loop-place-preserved : goal.loop-place-preserved
loop-place-preserved c =
    let log = log_of c.args.history.now in
    let ops = c.events_of-event-items.result.now in
    let turn : Turn log c.args.node ops c.loop-place.place =
    record { own = c.events_of-event-items.ensures.events; within = c.loop-place-test.true; low = c.requires.low; high = c.requires.high } in
    let looked : Looked log c.args.node ops c.loop-place.place (event.Read 0 0) c.loop-place.marks c.key.result c.index-marks-key.result c.used_by-used.result = record {
      turn = turn;
      sound = sound c.args.history.now c.requires.well_formed;
      keys = c.loop-place.auto.marks ∙ c.requires.keys;
      marked = c.loop-place.invariant.marked;
      key_is = c.key.ensures;
      used_is = c.used_by-used.ensures.used;
    } in
    let here = scanned _ _ _ _ _ _ _ _ _ _ looked c.in_default.ensures.anomaly in
    record {
      first = c.loop-place.invariant.first ∙ none_here log c.args.node ops c.loop-place.place (event.Read 0 0) turn here;
      marked = marked_next _ _ _ _ _ _ _ _ _ _ looked here c.used_after.ensures.used;
    }

pub returns : goal.returns
returns c = record {
  anomaly = sym (ap (λ l. first_behind (anomaly_at (log_of c.args.history.now)) c.args.node l 0) (sym c.events_of-event-items.ensures.events) ∙ c.loop-place.invariant.first ∙ first_behind-all (anomaly_at (log_of c.args.history.now)) c.args.node c.events_of-event-items.result.now c.loop-place.place c.loop-place-test.false);
  marks = c.loop-place.invariant.marked.below;
}
