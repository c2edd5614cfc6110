use Rattle.session_history.proofs.Prelude.{rules, answers_always, log_of, source}
use Rattle.session_history.proofs.Searched.{item_found, item_absent}
use Rattle.session_history.proofs.log.History.source_of.Goals as goal

pub returns-in-Ok : goal.returns-in-Ok
returns-in-Ok c =
    let log = log_of c.args.self.now in
    let position = c.in-Ok.ensures.position (λ y. y.key) (answers_always _ _ _ (λ f a r g called. search rules)) in
    record {
      source = item_found (source log c.args.node) log.keys (λ r. (r.key, r.source)) c.reads_of-reads.result.now c.reads_of-reads.ensures.sources c.args.key c.in-Ok.place c.index-reads-place.result c.in-Ok.ensures.bound position;
    }

pub returns-in-Err : goal.returns-in-Err
returns-in-Err c =
    let log = log_of c.args.self.now in
    let position = c.in-Err.ensures.position (λ y. y.key) (answers_always _ _ _ (λ f a r g called. search rules)) in
    record {
      source = item_absent (source log c.args.node) log.keys (λ r. (r.key, r.source)) c.reads_of-reads.result.now c.reads_of-reads.ensures.sources c.args.key c.in-Err.field-0 c.requires.key position;
    }
