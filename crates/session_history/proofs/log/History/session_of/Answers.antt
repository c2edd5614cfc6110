use Rattle.session_history.proofs.Prelude.{◌∙◌, ap, sym, option_map_or}
use Rattle.session_history.proofs.Kept.{session_kept}
use Rattle.session_history.proofs.log.History.session_of.Goals as goal

pub returns-in-Some : goal.returns-in-Some
returns-in-Some c = record {
  session = ap (λ o. option_map_or (λ node. node.session) o 0) c.in-Some.ensures ∙ sym (session_kept c.args.self.now c.args.node);
}

pub returns-in-None : goal.returns-in-None
returns-in-None c = record {
  session = ap (λ o. option_map_or (λ node. node.session) o 0) c.in-None.ensures ∙ sym (session_kept c.args.self.now c.args.node);
}
