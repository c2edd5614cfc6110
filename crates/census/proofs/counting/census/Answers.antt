use Rattle.census.proofs.Prelude.{◌≡◌, ℕ, List, map, length, refl, ap, ◌∙◌, subst, arith, Transaction, view, txns_in, view_ref, view_fault, KnowsLog, count_in, committed_in, faults_of, AreWorst}
use Rattle.std.proofs.Math.Path.{fun_ext}
use Rattle.serializability.specs.declared.anomaly.ReadAnomaly.TheVariants as anomaly
use Rattle.census.proofs.Counted.{all_counted}
use Rattle.census.proofs.Totals.{kinds, lost_are}
use Rattle.census.proofs.counting.census.Goals as goal

pub returns : goal.returns
returns c =
    let ss = map view c.args.sessions.now in
    let same = ap (map view_ref) c.as_slice-txns.ensures.value ∙ c.in_ok-all.ensures in
    let tables = c.in_ok-tables.tables in
    let knows = subst (λ (ts : List Transaction). KnowsLog ts tables) same c.in_ok-tables.ensures in
    let faults = c.as_slice-faults.result.now in
    let told = ap (map view_fault) c.as_slice-faults.ensures.value ∙ c.in_ok-found.ensures ss same knows.writes in
    let kept = c.as_slice-kept.result.now in
    let in_lost = ap (map view_ref) c.as_slice-kept.ensures.value ∙ c.in_ok-lost.ensures (txns_in ss) same knows.updates in
    let table = c.add_all_lost_keys.new.counts.table in
    let counted : (key : List ℕ) → count_in table key ≡ faults_of ss key = λ key.
    let none = c.new-counts.ensures key in
    let reads = c.in_ok-add_reads.ensures key in
    let losts = c.in_ok-add_all_lost_keys.ensures (committed_in ss) knows.updates key in
    all_counted ss faults kept key (count_in table key) told in_lost (omega (arith, none, reads, losts)) in
    record {
      census = record {
        unknown = kinds ss faults anomaly.Unknown _ told c.count_of.ensures;
        aborted = kinds ss faults anomaly.Aborted _ told c.count_of-2.ensures;
        intermediate = kinds ss faults anomaly.Intermediate _ told c.count_of-3.ensures;
        missed = kinds ss faults anomaly.OwnWriteMissed _ told c.count_of-4.ensures;
        future = kinds ss faults anomaly.Future _ told c.count_of-5.ensures;
        split = kinds ss faults anomaly.Split _ told c.count_of-6.ensures;
        lost = lost_are ss kept (length kept) in_lost refl;
        worst = subst (λ f. AreWorst f c.in_ok-worst_of.field-0.items) (fun_ext counted) c.in_ok-worst_of.ensures;
      };
    }
