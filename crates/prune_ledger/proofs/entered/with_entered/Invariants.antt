use Rattle.prune_ledger.proofs.Prelude.{◌≡◌, ◌++◌, entered_in}
use Rattle.prune_ledger.proofs.entered.with_entered.Given as goal

abbrev pub invariant-loop-step : goal.invariant-loop-step
invariant-loop-step l = record {
  entries : l.all.items ++ entered_in l.step-iterator.rest.items ≡ l.fn.entries.items ++ entered_in l.fn.history.items;
}
