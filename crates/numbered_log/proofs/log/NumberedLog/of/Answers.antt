use Rattle.numbered_log.proofs.Prelude.{List, map, subst, nat_cmp, contains, view, Committed, IsLearnt, IsNumbering}
use Rattle.std.proofs.lemmas.Result.{IfOk-weaker}
use Rattle.log_laws.proofs.Txns.{split}
use Rattle.numbered_log.proofs.Passing.{nodes_learnt}
use Rattle.numbered_log.proofs.log.NumberedLog.of.Goals as goal

pub returns : goal.returns
returns c =
    let ss = map view c.args.sessions.now in
    record {
      numbering = IfOk-weaker c.with_taken.result _ _ (λ log is learnt. subst (λ (l : List Committed). IsNumbering ss l log) (nodes_learnt (contains nat_cmp c.new.result) ss (split IsLearnt ss learnt)) is) c.with_taken.ensures.numbering;
    }
