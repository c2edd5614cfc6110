use Rattle.std.proofs.Common.{length, ap, ◌∙◌, subst, rules}
use Rattle.std.proofs.lemmas.Result.{err_from_is_err_and}
use Rattle.reach_laws.specs.Reach.{Graph, IsCyclic, IsCycle}
use Rattle.log_definitions.specs.Numbers.{log_of}
use Rattle.reduction.proofs.Shown.{cyclic_by_arcs, cyclic_by_known, coalesced_log, unpruned_polygraph, dead_history, open_history, reduce_fault}
use Rattle.reduction.proofs.steps.reduce_clean.Goals as goal

pub returns-in-Some-clause-reduction : goal.returns-in-Some-clause-reduction
returns-in-Some-clause-reduction g c =
    let found = rw c.in-Some.is at c.in_ok-cycle.ensures.cycle in
    cyclic_by_arcs c.args.history.now c.requires.clean c.in_ok-arcs.arcs c.in_ok-arcs.ensures.arcs c.nodes-invariant.ensures.graph c.in-Some.cycle.items found

pub returns-in_err-polygraph-clause-fault : goal.returns-in_err-polygraph-clause-fault
returns-in_err-polygraph-clause-fault g c =
    let acyclic : IsCyclic c.in_ok-arcs.arcs.edges → ⊥ = search rules in
    let p = err_from_is_err_and c.from_residual-in_err-polygraph.result c.from_residual-in_err-polygraph.ensures.1 in
    rw (p.1, p.2)
    (reduce_fault c.args.history.now c.requires.none (subst (λ (known : Graph). IsCyclic known.edges → ⊥) c.in_ok-arcs.ensures.arcs acyclic) c.in_err-polygraph.field-0.0
    c.in_err-polygraph.ensures.fault)

pub returns-in-Some-2-clause-reduction : goal.returns-in-Some-2-clause-reduction
returns-in-Some-2-clause-reduction g c =
    let arcs_acyclic : IsCyclic c.in_ok-arcs.arcs.edges → ⊥ = search rules in
    let found = rw c.in-Some-2.is at c.in_ok-cycle-2.ensures.cycle in
    let coalesced = coalesced_log (log_of c.args.history.now) c.requires.none (subst (λ (known : Graph). IsCyclic known.edges → ⊥) c.in_ok-arcs.ensures.arcs arcs_acyclic) c.in_ok-polygraph.ensures.few in
    cyclic_by_known c.args.history.now c.in_ok-polygraph.polygraph c.in_ok-polygraph.ensures.chained c.in_ok-polygraph.ensures.orders coalesced
    c.nodes-invariant-2.ensures.known c.in-Some-2.cycle.items
    (subst (λ (known : Graph). IsCycle known.edges c.in-Some-2.cycle.items) c.known.ensures found)

pub returns-in-Dead-clause-reduction : goal.returns-in-Dead-clause-reduction
returns-in-Dead-clause-reduction g c =
    let arcs_acyclic : IsCyclic c.in_ok-arcs.arcs.edges → ⊥ = search rules in
    let acyclic : IsCyclic c.known.result.now.edges → ⊥ = search rules in
    let coalesced = coalesced_log (log_of c.args.history.now) c.requires.none (subst (λ (known : Graph). IsCyclic known.edges → ⊥) c.in_ok-arcs.ensures.arcs arcs_acyclic) c.in_ok-polygraph.ensures.few in
    let unpruned = unpruned_polygraph (log_of c.args.history.now) c.in_ok-polygraph.polygraph coalesced c.in_ok-polygraph.ensures.chained (subst (λ (known : Graph). IsCyclic known.edges → ⊥) c.known.ensures acyclic) in
    dead_history c.args.history.now c.in_ok-polygraph.polygraph c.in-Dead.ledger unpruned c.in_ok-polygraph.ensures.orders (rw c.in-Dead.is at c.in_ok-ledger.ensures)

pub returns-in-Open-clause-reduction : goal.returns-in-Open-clause-reduction
returns-in-Open-clause-reduction g c =
    let arcs_acyclic : IsCyclic c.in_ok-arcs.arcs.edges → ⊥ = search rules in
    let acyclic : IsCyclic c.known.result.now.edges → ⊥ = search rules in
    let coalesced = coalesced_log (log_of c.args.history.now) c.requires.none (subst (λ (known : Graph). IsCyclic known.edges → ⊥) c.in_ok-arcs.ensures.arcs arcs_acyclic) c.in_ok-polygraph.ensures.few in
    let unpruned = unpruned_polygraph (log_of c.args.history.now) c.in_ok-polygraph.polygraph coalesced c.in_ok-polygraph.ensures.chained (subst (λ (known : Graph). IsCyclic known.edges → ⊥) c.known.ensures acyclic) in
    record {
      counted = ap length c.choices-choices.ensures.choices ∙ ap length c.in_ok-polygraph.ensures.chained.choices;
      left = open_history c.args.history.now c.in_ok-polygraph.polygraph c.in-Open.reduced unpruned c.in_ok-polygraph.ensures.orders (rw c.in-Open.is at c.in_ok-ledger.ensures);
    }
