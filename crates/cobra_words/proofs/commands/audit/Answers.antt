use Rattle.cobra_words.proofs.Prelude.{rules, codes, IfOk-weaker, new_app, strategies, with_audit, with_report, with_search, HasApp, HasListApp, IsAudit}
use Rattle.cobra_words.proofs.commands.audit.Goals as goal

pub returns : goal.returns
returns c =
    let base : HasApp (new_app (codes "audit")) c.after_help-command.result = record { is = search rules; own = search rules } in
    let one = c.in_ok-with_audit.ensures.app (new_app (codes "audit")) base in
    let mid = with_audit one.parser (new_app (codes "audit")) in
    let two = c.in_ok-command.ensures.app mid one.has in
    let app = with_report two.parser mid in
    record {
      app = IfOk-weaker c.with_search.result (HasListApp strategies (λ p. with_search (codes "forced") (codes "100000") p app)) IsAudit
          (λ x k. record { level = one.parser; takes_level = one.takes; form = two.parser; takes_form = two.takes; strategy = k.parser; takes_strategy = k.takes; has = k.has }) (c.with_search.ensures.app app two.has);
    }
