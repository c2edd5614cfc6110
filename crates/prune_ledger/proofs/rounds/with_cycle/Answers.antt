use Rattle.prune_ledger.proofs.Prelude.{refl, subst, Graph, IsCycle, none_fits}
use Rattle.prune_ledger.proofs.Finals.{is_dead_by, cycle_in}
use Rattle.prune_ledger.proofs.rounds.with_cycle.Goals as goal

pub returns : goal.returns
returns c =
    let p = c.args.polygraph.now in
    let entries = c.args.progress.entries.items in
    let dead = is_dead_by p entries c.args.progress.own c.requires.machine.shown c.requires.machine.grown.ledger c.requires.graph c.requires.cyclic in
    let found = subst (λ (g : Graph). IsCycle g.edges c.in-Some.line.items) c.graph.ensures.graph (rw c.in-Some.is at c.in_ok-line.ensures.cycle) in
    record {
      dead = dead;
      valid = record { shown = c.requires.machine.shown; cycle = cycle_in p entries c.args.progress.own c.requires.graph c.in-Some.line.items found };
      rounds = record { last = c.args.progress.machine; rounds = c.requires.machine.rounds };
      cycle = refl;
      orders = none_fits p dead;
    }
