-- What the tests of an identity that is read mean.
use Rattle.anomaly_laws.proofs.Prelude.{◌≡◌, ℕ, true, false, eqb, not, ◌&&◌, Some, sym, ap, ◌∙◌, arith, list_any, option_map_or, false≢true, and_parts, not-true, eqb-false, list_any-from_Any, Write, Log, last_write, committed, is_write_of}
use Rattle.anomaly_laws.proofs.Prelude.{writes_as, is_unknown, is_aborted, is_intermediate, Has-from_range, range-from_Has, any_found, any_from, wrote_from, is_write-self, IsWrittenNowhere, IsIntermediateWrite}
use Rattle.anomaly_laws.specs.Aborted.{WritesAborted}
use Rattle.anomaly_laws.proofs.Lists.{any_split, contains_at}
use Rattle.anomaly_laws.proofs.Writes.{writes_split, writes_at, some_last_write}

pub aborted_writes : (log : Log) (x w : ℕ) → is_aborted log x w ≡ true → WritesAborted log x w
aborted_writes log x w t =
    let f = any_split (writes_as x w) log.aborted t in
    let s = writes_split x w f.item f.passes in
    (f.item, contains_at log.aborted f.front f.item f.back f.stands, contains_at f.item s.before (Write x w) s.behind s.stands)

pub aborted_from : (log : Log) (x w : ℕ) → WritesAborted log x w → is_aborted log x w ≡ true
aborted_from log x w a =
    let writes = list_any-from_Any (is_write_of x w) a.0 (a.2.0, Write x w, a.2.1, a.2.2, is_write-self x w) in
    list_any-from_Any (writes_as x w) log.aborted (a.1.0, a.0, a.1.1, a.1.2, writes)

pub written_nowhere : (log : Log) (x w : ℕ) → is_unknown log x w ≡ true → IsWrittenNowhere log x w
written_nowhere log x w t =
    let nodes = list_any (λ u. writes_as x w (log.ops u)) (committed log) in
    let p = and_parts (not (eqb w 0)) (not nodes && not (is_aborted log x w)) t in
    let q = and_parts (not nodes) (not (is_aborted log x w)) p.1 in
    record {
      nonzero = eqb-false w 0 (not-true (eqb w 0) p.0);
      committed = λ u before writes.
          (let here = writes_at x w (log.ops u) before writes.2.0 writes.2.1 in
          let there = Has-from_range u 1 log.nodes (omega (arith, writes.0)) (omega (arith, writes.1)) in
          false≢true (sym (not-true nodes q.0) ∙ any_from (λ k. writes_as x w (log.ops k)) (committed log) u here there));
      aborted = λ a. false≢true (sym (not-true (is_aborted log x w) q.1) ∙ aborted_from log x w a);
    }

pub intermediate_write : (log : Log) (v x w : ℕ) → is_intermediate log v x w ≡ true → IsIntermediateWrite log v x w
intermediate_write log v x w t =
    let f = any_found (λ u. not (eqb u v) && (writes_as x w (log.ops u) && not (option_map_or (λ y. eqb y w) (last_write x (log.ops u)) false))) (committed log) t in
    let range = range-from_Has f.0 1 log.nodes f.1.1 in
    let ends = option_map_or (λ y. eqb y w) (last_write x (log.ops f.0)) false in
    let p = and_parts (not (eqb f.0 v)) (writes_as x w (log.ops f.0) && not ends) f.1.0 in
    let q = and_parts (writes_as x w (log.ops f.0)) (not ends) p.1 in
    let s = writes_split x w (log.ops f.0) q.0 in
    let last = some_last_write x w (log.ops f.0) q.0 in
    record {
      writer = f.0;
      other = eqb-false f.0 v (not-true (eqb f.0 v) p.0);
      before = s.before;
      writes = (omega (arith, range.0), omega (arith, range.1), (s.behind, s.stands));
      final = last.0;
      ends = last.1;
      differs = λ same. false≢true (sym (not-true ends q.1) ∙ wrote_from (last_write x (log.ops f.0)) w (last.1 ∙ ap Some same));
    }
