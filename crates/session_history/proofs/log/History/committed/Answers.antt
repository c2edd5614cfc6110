use Rattle.session_history.proofs.Prelude.{◌∙◌, ap, arith, log_of}
use Rattle.session_history.proofs.Kept.{nodes_kept, nodes_few}
use Rattle.session_history.proofs.log.History.committed.Goals as goal

pub returns-clause-count : goal.returns-clause-count
returns-clause-count c = c.len.ensures ∙ c.self.inside.nodes.ok.0 ∙ nodes_kept c.self.inside c.self.invariant ∙ ap (λ ss. (log_of ss).nodes) c.self.view_is

pub returns-clause-few : goal.returns-clause-few
returns-clause-few c =
    let n = nodes_kept c.self.inside c.self.invariant in
    let few = nodes_few c.self.inside c.self.invariant in
    omega (arith, n, few, c.len.ensures, c.self.inside.nodes.ok.0)
