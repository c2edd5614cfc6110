use Rattle.prune_ledger.proofs.Prelude.{◌∙◌, ap, Some, slice_get-get_or}
use Rattle.std.proofs.lemmas.Result.{IfOk-weaker}
use Rattle.prune_ledger.proofs.crew.all_work.Goals as goal

pub returns-clause-numbers : goal.returns-clause-numbers
returns-clause-numbers g c =
    IfOk-weaker c.map_vec.result _ _ (λ v h. λ i d lt.
    (let job = (h i d lt).1 in
    job.call.met.0 ∙ (c.requires.fresh i job.job (slice_get-get_or c.args.seats.items i job.job lt ∙ ap Some (job.job_is job.job))).0)) c.map_vec.ensures.each
