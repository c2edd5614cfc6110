use Rattle.write_chains.proofs.Prelude.{ℕ, ◌-◌, ◌<◌, ◌++◌, ◌∷◌, [], sym, ap, ◌∙◌, subst, arith, AllByRecursion, range_with_len, All-from_recursion, each_of_map, log_of, ReadFrom, readings_among}
use Rattle.write_chains.proofs.Pushes.{lists_same}
use Rattle.write_chains.proofs.Gathered.{all_keys_below, readings_one, readings_further}
use Rattle.write_chains.proofs.readings.readings_of.Goals as goal

pub add_reads-requires : goal.add_reads-requires
add_reads-requires c =
    let log = log_of c.args.history.now in
    let below : ℕ × ℕ → Type 0 = λ p. p.0 < log.keys in
    let each = subst (AllByRecursion below) (sym c.reads_of.ensures.sources) (all_keys_below log c.node-reader.result log.keys 0 log.keys (omega arith)) in
    let all = All-from_recursion (λ (r : ReadFrom). r.key < log.keys) c.reads_of.result.now (each_of_map below (λ (r : ReadFrom). (r.key, r.source)) c.reads_of.result.now each) in
    record { keys = λ k d lt. omega (arith, all k d lt, c.loop-number.invariant.count) }

pub loop-number-preserved : goal.loop-number-preserved
loop-number-preserved c =
    let log = log_of c.args.history.now in
    let r = c.loop-number.number in
    let number = c.node-reader.ensures.value in
    lists_same log.keys _ _ c.add_reads.new.readings
    (λ x lt. ap (λ l. readings_among log x (range_with_len 1 (r - 1)) ++ l)
    (readings_one log c.node-reader.result x c.reads_of.result.now lt c.reads_of.ensures.sources ∙ ap (λ v. readings_among log x (v ∷ [])) number)
    ∙ readings_further log x r (omega arith))
    (c.in_ok-add_reads.ensures.added log.keys (λ x. readings_among log x (range_with_len 1 (r - 1))) c.loop-number.invariant)
