use Rattle.write_chains.proofs.Prelude.{◌≡◌, ◌+◌, ◌<◌, sym, ap, ◌∙◌, subst, arith, AllByRecursion, All-from_recursion, committed, log_of, Reading, AreLists, readers_among}
use Rattle.write_chains.proofs.Pushes.{lists_same}
use Rattle.write_chains.proofs.Gathered.{sources_below, readers_all}
use Rattle.write_chains.proofs.links.links_of.Goals as goal

pub readers_of-requires : goal.readers_of-requires
readers_of-requires c =
    let log = log_of c.args.history.now in
    let below : Reading → Type 0 = λ r. r.source < log.nodes + 1 in
    let each = subst (AllByRecursion below) (sym c.requires.readings) (sources_below log c.args.key (committed log)) in
    let all = All-from_recursion below c.args.readings.now each in
    record { within = λ k d lt. omega (arith, all k d lt, c.committed.ensures.count) }

pub returns : goal.returns
returns c =
    let log = log_of c.args.history.now in
    let nodes = c.committed.ensures.count in
    record {
      links = record {
        next = c.in_ok-next_of.ensures.next;
        readers =
            let count : c.committed.result + 1 ≡ log.nodes + 1 = ap (λ n. n + 1) nodes in
            lists_same (log.nodes + 1) _ _ c.in_ok-readers_of.field-0.items
            (λ w lt. ap (readers_among w) c.requires.readings ∙ readers_all log c.args.key w)
            (subst (λ n. AreLists n (λ w. readers_among w c.args.readings.now) c.in_ok-readers_of.field-0.items) count c.in_ok-readers_of.ensures.readers);
      };
    }
