use Rattle.write_chains.proofs.Prelude.{◌≡◌, ◌+◌, ◌++◌, ◌∷◌, [], take, sym, ap, ◌∙◌, append_assoc, take_more, take_all, readings_by}
use Rattle.write_chains.proofs.Pushes.{lists_same}
use Rattle.write_chains.proofs.Gathered.{readings_push}
use Rattle.write_chains.proofs.readings.add_reads.Goals as goal

pub loop-read-preserved : goal.loop-read-preserved
loop-read-preserved c =
    let reads = c.args.reads.now in
    let i = c.loop-read.read-index in
    let read = c.read-item.result in
    let further : take (i + 1) reads ≡ take i reads ++ read ∷ [] = take_more reads i read c.loop-read-test.true ∙ ap (λ d. take i reads ++ d ∷ []) (sym c.read-item.is) in
    record {
      count = c.push_at.auto.lists ∙ c.loop-read.invariant.count;
      added = λ n f h.
          lists_same n _ _ c.push_at.new.lists
          (λ x lt. append_assoc (f x) (readings_by c.args.reader x (take i reads)) _
          ∙ ap (λ l. f x ++ l) (sym (readings_push c.args.reader x (take i reads) read) ∙ ap (readings_by c.args.reader x) (sym further)))
          (c.in_ok-push_at.ensures.pushed n (λ x. f x ++ readings_by c.args.reader x (take i reads)) (c.loop-read.invariant.added n f h));
    }

pub returns : goal.returns
returns c = record {
  added = λ n f h. lists_same n _ _ c.loop-read.readings (λ x lt. ap (λ l. f x ++ readings_by c.args.reader x l) (take_all c.loop-read.read-index c.args.reads.now c.loop-read-test.false)) (c.loop-read.invariant.added n f h);
}
