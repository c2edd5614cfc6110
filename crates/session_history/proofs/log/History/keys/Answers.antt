use Rattle.session_history.proofs.Prelude.{◌∙◌, ap, arith, log_of}
use Rattle.session_history.proofs.Kept.{keys_kept, keys_few}
use Rattle.session_history.proofs.log.History.keys.Goals as goal

pub returns-clause-count : goal.returns-clause-count
returns-clause-count c = c.len.ensures.len ∙ keys_kept c.self.inside c.self.invariant ∙ ap (λ ss. (log_of ss).keys) c.self.view_is

pub returns-clause-few : goal.returns-clause-few
returns-clause-few c =
    let n = keys_kept c.self.inside c.self.invariant in
    let few = keys_few c.self.inside c.self.invariant in
    omega (arith, n, few, c.len.ensures.len)
