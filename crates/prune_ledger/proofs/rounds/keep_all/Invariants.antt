use Rattle.prune_ledger.proofs.Prelude.{◌≡◌, List, take, Entry as Kept, kept_after, posts_in, IsGraphOf}
use Rattle.prune_ledger.proofs.rounds.keep_all.Given as goal

abbrev pub invariant-loop-entry : goal.invariant-loop-entry
invariant-loop-entry l = record {
  nodes : l.own.nodes ≡ l.fn.own.nodes;
  kept : (earlier : List Kept) → IsGraphOf l.polygraph earlier l.fn.own → IsGraphOf l.polygraph (kept_after earlier (posts_in (take l.entry-index l.entries))) l.own;
}
