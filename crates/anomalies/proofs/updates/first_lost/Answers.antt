use Rattle.anomalies.proofs.Prelude.{◌<◌, ◌+◌, Some, length, refl, sym, ap, ◌∙◌, arith, with_items_is, Anomaly, log_of, lost_updates_of, lost_by}
use Rattle.anomalies.proofs.Clashes.{below_written}
use Rattle.anomalies.proofs.Scan.{passed, stopped, first_from-zero}
use Rattle.anomalies.proofs.updates.first_lost.Goals as goal

pub returns-in-Some : goal.returns-in-Some
returns-in-Some c =
    let log = log_of c.args.history.now in
    let within : c.loop-key.key < log.keys = omega (arith, c.keys-key-end.ensures.count) in
    record {
      anomaly = sym (sym (first_from-zero (λ (a : Anomaly). Some a) (lost_updates_of log) log.keys) ∙ c.loop-key.invariant.first ∙ stopped (λ (a : Anomaly). Some a) (lost_updates_of log) c.loop-key.key c.loop-key.key log.keys (lost_by c.loop-key.key c.in-Some.clash) refl within (sym c.in-Some.ensures.clash));
    }

pub loop-key-preserved : goal.loop-key-preserved
loop-key-preserved c =
    let log = log_of c.args.history.now in
    let within : c.loop-key.key < log.keys = omega (arith, c.keys-key-end.ensures.count) in
    let same = with_items_is c.loop-key.updaters c.least_clash.new.updaters (c.least_clash.auto.updaters ∙ c.deref_mut.ensures.len) in
    record {
      first = c.loop-key.invariant.first ∙ passed (λ (a : Anomaly). Some a) (lost_updates_of log) c.loop-key.key c.loop-key.key log.keys refl within (sym c.in_default.ensures.clash);
      nodes = ap length same ∙ c.least_clash.auto.updaters ∙ c.deref_mut.ensures.len ∙ c.loop-key.updaters.ok.0 ∙ c.loop-key.invariant.nodes;
      below = below_written (c.loop-key.key + 1) _ c.least_clash.new.updaters same c.in_default.ensures.updaters;
    }
