use Rattle.prune_ledger.proofs.Prelude.{◌∙◌, List, take, subst, take_all, Entry as Kept, kept_after, posts_in, IsGraphOf}
use Rattle.prune_ledger.proofs.KeptUp.{kept_next}
use Rattle.prune_ledger.proofs.rounds.keep_all.Goals as goal

pub loop-entry-preserved : goal.loop-entry-preserved
loop-entry-preserved c =
    let p = c.args.polygraph.now in let entries = c.args.entries.now in let k = c.loop-entry.entry-index in
    record {
      nodes = c.keep.ensures.nodes ∙ c.loop-entry.invariant.nodes;
      kept = λ earlier is. subst (λ (l : List Kept). IsGraphOf p l c.keep.new.own) (kept_next earlier entries k c.entry-item.result c.loop-entry-test.true c.entry-item.is)
          (c.keep.ensures.kept (kept_after earlier (posts_in (take k entries))) (c.loop-entry.invariant.kept earlier is));
    }

pub returns : goal.returns
returns c = record {
  kept = λ earlier is. subst (λ l. IsGraphOf c.args.polygraph.now (kept_after earlier (posts_in l)) c.loop-entry.own) (take_all c.loop-entry.entry-index c.args.entries.now c.loop-entry-test.false)
      (c.loop-entry.invariant.kept earlier is);
}
