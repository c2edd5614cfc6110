use Rattle.tell_steps.proofs.Prelude.{ℕ, Option, Some, subst, Vec, IfSome, Global, IsCycle, edges_after}
use Rattle.prune_ledger.specs.Pruned as pruned
use Rattle.tell_steps.proofs.Ledgers.{dead_closed}
use Rattle.tell_steps.proofs.dead.tell_dead.Goals as goal

pub unreachable-requires : goal.unreachable-requires
unreachable-requires c =
    let entries = c.args.ledger.now.entries.items in
    let d = c.requires.ledger in
    let Closes : Option (Vec ℕ Global) → Type 0 = λ o. IfSome o (λ line. IsCycle (edges_after d.entries.poly (pruned.kept_by entries)) line.items) in
    let cycle : Closes (Some c.in-Some.cycle) = subst Closes c.in-Some.is d.cycle in
    let closed = dead_closed c.args.history.now entries c.requires.clean d.entries c.in-Some.cycle.items cycle in
    (rw c.in-None.is at c.in_ok-items-3.ensures.none) (rw (c.requires.chains, c.deref-5.ensures.value, c.deref-6.ensures.value) closed)
