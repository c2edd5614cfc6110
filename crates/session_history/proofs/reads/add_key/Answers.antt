use Rattle.session_history.proofs.Prelude.{ℕ, ◌∙◌, ap, sym, ◌++◌, map, take, cond, nat_eq, ◌∷◌, [], take_all, reader_view, entry_of, final_node, found_by}
use Rattle.session_history.proofs.Reading.{reads_same, reader_more}
use Rattle.session_history.proofs.reads.add_key.Goals as goal

pub loop-reader-preserved : goal.loop-reader-preserved
loop-reader-preserved c =
    let readers = c.args.readers.now in
    let i = c.loop-reader.reader-index in
    let x = c.args.key in
    let r = c.reader-item.result in
    let source = λ (w : ℕ). final_node (entry_of c.args.writes.now w) x in
    record {
      count = c.add_read.ensures.count ∙ c.loop-reader.invariant.count;
      added = λ n g h.
          let so_far = λ (v : ℕ). g v ++ found_by x source v (map reader_view (take i readers)) in
          reader_more n x source g readers i r r c.add_read.new.reads.items c.loop-reader-test.true (sym c.reader-item.is)
          (reads_same n (λ v. so_far v ++ cond (nat_eq r.node v) ((x, c.final_writer-source.result) ∷ []) []) (λ v. so_far v ++ cond (nat_eq r.node v) ((x, source r.wid) ∷ []) []) c.add_read.new.reads.items
          (λ v. ap (λ s. so_far v ++ cond (nat_eq r.node v) ((x, s) ∷ []) []) c.final_writer-source.ensures)
          (c.in_ok-add_read.ensures.added n so_far (c.loop-reader.invariant.added n g h)));
    }

pub returns-clause-added : goal.returns-clause-added
returns-clause-added c = λ n g h.
    reads_same n _ _ _ (λ v. ap (λ rs. g v ++ found_by c.args.key (λ w. final_node (entry_of c.args.writes.now w) c.args.key) v (map reader_view rs))
    (take_all c.loop-reader.reader-index c.args.readers.now c.loop-reader-test.false)) (c.loop-reader.invariant.added n g h)
