use Rattle.session_history.proofs.Prelude.{◌∙◌, ap, sym, [], option_map_or}
use Rattle.session_history.proofs.Kept.{ops_kept}
use Rattle.session_history.proofs.log.History.events_of.Goals as goal

pub returns-in-Some : goal.returns-in-Some
returns-in-Some c = record {
  events = c.deref.ensures.value ∙ ap (λ o. option_map_or (λ node. node.events) o []) c.in-Some.ensures ∙ sym (ops_kept c.args.self.now c.args.node);
}

pub returns-in-None : goal.returns-in-None
returns-in-None c = record {
  events = ap (λ o. option_map_or (λ node. node.events) o []) c.in-None.ensures ∙ sym (ops_kept c.args.self.now c.args.node);
}
