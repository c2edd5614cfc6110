use Rattle.prune_ledger.proofs.Prelude.{◌∙◌, arith}
use Rattle.prune_ledger.proofs.Finals.{progress_more, posts_more, no_fewer}
use Rattle.prune_ledger.proofs.KeptUp.{graph_ahead}
use Rattle.prune_ledger.proofs.rounds.one_round.Goals as goal

pub returns : goal.returns
returns g c =
    let p = c.args.polygraph.now in let start = c.args.progress in
    let entries = start.entries.items in let next = c.in_ok-entries.entries.items in let is_next = c.in_ok-entries.ensures.entries in let posts = posts_more entries next c.in_ok-closed.field-0.closed.history.items is_next in
    let a = c.len-before.ensures in let d = start.entries.ok.0 in
    record {
      progress = progress_more p (record { choices = c.nodes-invariant.ensures.polygraph; known = c.nodes-invariant.ensures.known }) entries next start.machine c.in_ok-opened.opened.machine
          c.in_ok-closed.field-0.closed.machine c.in_ok-closed.field-0.closed.history.items c.requires.machine (c.in_ok-opened.ensures.machine ∙ c.reopened.ensures) c.in_ok-closed.ensures.legal is_next;
      before = let n = no_fewer entries next _ posts in omega (arith, n, a, d);
      graph = graph_ahead p entries next _ c.len-before.result start.own (omega (arith, a, d)) posts c.requires.graph;
      acyclic = c.requires.acyclic;
      flagged = c.in_ok-closed.ensures.len;
      open_in = c.in_ok-closed.ensures.open;
    }
