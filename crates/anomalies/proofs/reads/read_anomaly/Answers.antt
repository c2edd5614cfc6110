use Rattle.anomalies.proofs.Prelude.{ap, ◌∙◌, option_or, log_of}
use Rattle.anomalies.proofs.Usages.{first_read, further_read}
use Rattle.anomalies.proofs.reads.read_anomaly.Goals as goal

pub returns-in-None : goal.returns-in-None
returns-in-None c = record {
  anomaly = λ before behind s h.
      (let u = rw c.in-None.is at h in
      first_read (log_of c.args.history.now) c.args.node c.args.key c.args.wid before behind _ u (c.write_anomaly.ensures.anomaly before behind s));
}

pub returns-in-Read : goal.returns-in-Read
returns-in-Read c = record {
  anomaly = λ before behind s h.
      (let u = rw c.in-Some.is at h in
      let v = rw c.in-Read.is at u in
      c.or.ensures
      ∙ ap (option_or c.write_anomaly-in-Read.result) c.then_some-in-Read.ensures
      ∙ further_read (log_of c.args.history.now) c.args.node c.args.key c.args.wid c.in-Read.first before behind _ v (c.write_anomaly-in-Read.ensures.anomaly before behind s));
}
