use Rattle.prune_ledger.proofs.Prelude.{◌∙◌, List, sym, subst, opening_state, IsProgress, LedgerEntry}
use Rattle.prune_ledger.proofs.Finals.{progress_first}
use Rattle.prune_ledger.proofs.KeptUp.{graph_first}
use Rattle.prune_ledger.proofs.rounds.beginning.Goals as goal

pub returns-clause-machine : goal.returns-clause-machine
returns-clause-machine g c =
    let hs = c.in_ok-choices.ensures ∙ c.choices.ensures.choices in
    let gs = c.in_ok-known.ensures.same ∙ c.known.ensures in
    subst (λ (es : List LedgerEntry). IsProgress c.args.polygraph.now es c.in_ok-opening.field-0) (sym c.new.ensures.items)
    (progress_first c.args.polygraph.now (record { choices = c.nodes-invariant.ensures.polygraph; known = c.nodes-invariant.ensures.known }) c.in_ok-opening.field-0
    (c.in_ok-opening.ensures ∙ (λ i. opening_state (hs i) (gs i))))

pub returns-clause-graph : goal.returns-clause-graph
returns-clause-graph g c = graph_first c.args.polygraph.now c.new.result.items c.new-2.result c.new.ensures.items (c.new-2.ensures.graph ∙ c.in_ok-copy.ensures.same ∙ c.known-4.ensures)
