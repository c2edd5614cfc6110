use Rattle.session_history.proofs.Prelude.{ℕ, ◌∙◌, ap, sym, map, take, entry_of, final_node, readers_of}
use Rattle.session_history.specs.Sources.{found_in}
use Rattle.session_history.proofs.Reading.{key_more}
use Rattle.session_history.proofs.reads.reads_of.Goals as goal

pub loop-key-preserved : goal.loop-key-preserved
loop-key-preserved c =
    let source = λ (x w : ℕ). final_node (entry_of c.args.writes.now w) x in
    let x = c.loop-key.key in
    key_more c.args.nodes source c.args.rows.now x c.index-rows-key.result c.deref.result.now c.add_key.new.reads.items c.loop-key-test.true c.index-rows-key.is
    (c.deref.ensures.value ∙ ap (λ r. r.readers.items) (sym c.index-rows-key.is))
    (c.in_ok-add_key.ensures.added c.args.nodes (λ v. found_in 0 source v (map readers_of (take x c.args.rows.now))) c.loop-key.invariant)
