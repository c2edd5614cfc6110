use Rattle.prune_ledger.proofs.Prelude.{IsProgress, IsGraphOf, kept_by}
use Rattle.prune_ledger.proofs.rounds.prune.Given as goal

abbrev pub invariant-loop : goal.invariant-loop
invariant-loop g l = record {
  machine : IsProgress l.fn.polygraph l.progress.entries.items l.progress.machine;
  graph : IsGraphOf l.fn.polygraph (kept_by l.progress.entries.items) l.progress.own;
}
