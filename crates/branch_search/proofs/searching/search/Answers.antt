use Rattle.branch_search.proofs.Prelude.{◌∙◌, ap, IfOk-weaker, Polygraph, opening_state, IsReadFrom, EndsRun}
use Rattle.branch_search.proofs.Ends.{ends_run}
use Rattle.branch_search.proofs.searching.search.Goals as goal

pub returns-clause-ran : goal.returns-clause-ran
returns-clause-ran g c =
    let p = c.args.reduced.now.poly in let budget = c.args.effort.budget in let s = c.in_ok-closed.closed.machine in
    let opening = c.in_ok-opened.ensures.machine ∙ c.in_ok-machine.ensures.opening ∙ ap (λ (q : Polygraph). opening_state q budget) c.poly.ensures.poly in
    IfOk-weaker c.read_answer.result (IsReadFrom s) (EndsRun p budget)
    (λ a r. ends_run p budget c.in_ok-closed.closed.history.items s c.in_ok-opened.opened.machine a opening c.in_ok-closed.ensures r) c.read_answer.ensures.read
