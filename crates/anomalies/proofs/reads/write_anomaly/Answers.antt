use Rattle.anomalies.proofs.Prelude.{sym, ◌∙◌, eqb-true, eqb-false}
use Rattle.anomalies.proofs.Sound.{sound}
use Rattle.anomalies.proofs.Named.{zero_read, unwritten_read, other_key_read, aborted_read, future_read, final_read, intermediate_read}
use Rattle.anomalies.proofs.reads.write_anomaly.Goals as goal

pub returns-then-wid-eq0 : goal.returns-then-wid-eq0
returns-then-wid-eq0 c = record {
  anomaly = λ before behind s external. zero_read _ (sound _ c.requires.well_formed) _ _ _ before behind s c.if-wid-eq0.true;
}

pub returns-in-None : goal.returns-in-None
returns-in-None c = record {
  anomaly = λ before behind s external. unwritten_read _ _ _ _ before behind c.if-wid-eq0.false c.in-None.ensures.write;
}

pub returns-then-write-key : goal.returns-then-write-key
returns-then-write-key c = record {
  anomaly = λ before behind s external. other_key_read _ (sound _ c.requires.well_formed) _ _ _ _ _ _ before behind c.if-wid-eq0.false c.in-Some.ensures.write c.if-write-key.true;
}

pub returns-then-eq : goal.returns-then-eq
returns-then-eq c = record {
  anomaly = λ before behind s external.
      (let write = rw c.if-write-key.false at c.in-Some.ensures.write in
      aborted_read _ _ _ _ _ _ before behind write (eqb-true _ 0 (sym c.eq.ensures ∙ c.if-eq.true)));
}

pub returns-then-eq-2 : goal.returns-then-eq-2
returns-then-eq-2 c = record {
  anomaly = λ before behind s external. (let write = rw c.if-write-key.false at c.in-Some.ensures.write in
      future_read _ (sound _ c.requires.well_formed) _ _ _ _ _ before behind s external write
      (eqb-false _ 0 (sym c.eq.ensures ∙ c.if-eq.false)) (eqb-true _ _ (sym c.eq-else-eq.ensures ∙ c.if-eq-2.true)));
}

pub returns-then-write : goal.returns-then-write
returns-then-write c = record {
  anomaly = λ before behind s external. (let write = rw c.if-write-key.false at c.in-Some.ensures.write in
      final_read _ (sound _ c.requires.well_formed) _ _ _ _ _ before behind s write
      (eqb-false _ 0 (sym c.eq.ensures ∙ c.if-eq.false)) (eqb-false _ _ (sym c.eq-else-eq.ensures ∙ c.if-eq-2.false)) c.if-write.true);
}

pub returns-else-write : goal.returns-else-write
returns-else-write c = record {
  anomaly = λ before behind s external. (let write = rw c.if-write-key.false at c.in-Some.ensures.write in
      intermediate_read _ (sound _ c.requires.well_formed) _ _ _ _ _ before behind s write
      (eqb-false _ 0 (sym c.eq.ensures ∙ c.if-eq.false)) (eqb-false _ _ (sym c.eq-else-eq.ensures ∙ c.if-eq-2.false)) c.if-write.false);
}
