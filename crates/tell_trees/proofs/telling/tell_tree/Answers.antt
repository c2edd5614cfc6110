use Rattle.tell_trees.proofs.Prelude.{◌∙◌, ap, map, sym, subst, IfOk-weaker, log_of, Ledger, AreEntries, round_view, AreOrdersOf, AreVisits}
use Rattle.tell_trees.proofs.Cubes.{IsSearched, orders_count, ledger_shown, rounds_stand}
use Rattle.tell_trees.proofs.Counted.{told_count}
use Rattle.tell_trees.proofs.telling.tell_tree.Goals as goal

pub visits-requires : goal.visits-requires
visits-requires c = record {
  tree = rw (c.deref.ensures.value, c.nodes-nodes.ensures.nodes) (record {
    poly = c.args.reduced.now.poly;
    shown = c.requires.tree;
    count = orders_count (log_of c.args.chains.now) c.args.reduced.now.poly.choices c.in_ok-orders.orders.items c.in_ok-orders.ensures.orders;
  });
}

pub tell_rounds-requires-clause-ledger : goal.tell_rounds-requires-clause-ledger
tell_rounds-requires-clause-ledger c = rw c.as_slice-entries.ensures.value (subst (λ (l : Ledger). AreEntries c.args.history.now l.entries.items) (sym c.ledger.ensures)
    (ledger_shown c.args.history.now c.args.reduced.now c.requires.left))

pub tell_rounds-requires-clause-stand : goal.tell_rounds-requires-clause-stand
tell_rounds-requires-clause-stand c =
    let nodes = c.nodes-nodes.result.now in let orders = c.deref.result.now in let entries = c.as_slice-entries.result.now in
    let searched : IsSearched c.args.history.now entries orders nodes = record {
      clean = c.requires.clean;
      reduced = c.args.reduced.now;
      left = c.requires.left;
      entries_are = c.as_slice-entries.ensures.value ∙ ap (λ (l : Ledger). l.entries.items) c.ledger.ensures;
      sides = rw (c.deref.ensures.value, ← c.requires.chains) c.in_ok-orders.ensures.orders;
      shown = rw c.nodes-nodes.ensures.nodes c.requires.tree;
    } in
    rw c.deref-2.ensures.value (rounds_stand c.args.history.now entries orders nodes searched c.in_ok-rounds.rounds.items c.in_ok-rounds.ensures.visited)

pub returns : goal.returns
returns c =
    let ss = c.args.history.now in let nodes = c.nodes-nodes.result.now in let orders = c.deref.result.now in let p = c.args.reduced.now.poly in
    let visited : AreVisits ss orders nodes (map round_view c.deref-2.result.now) = rw c.deref-2.ensures.value c.in_ok-rounds.ensures.visited in
    let sides : AreOrdersOf (log_of ss) p.choices orders = rw (c.deref.ensures.value, ← c.requires.chains) c.in_ok-orders.ensures.orders in
    let count = told_count nodes p (rw c.nodes-nodes.ensures.nodes c.requires.tree) visited.visited in
    record {
      told = rw (← c.nodes-nodes.ensures.nodes) (IfOk-weaker c.tell_rounds.result _ _
          (λ items t. record { orders = orders; sides = sides; rounds = map round_view c.deref-2.result.now; visits = visited; count = count; told = t }) c.tell_rounds.ensures.told);
    }
