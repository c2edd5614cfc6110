use Rattle.tell_steps.proofs.Prelude.{◌≡◌, [], ◌++◌, List, map, drop, All, log_of, Item, IsOrder, orders_of, AreBuilt, AreStepsTold, round_view, AreRoundsTold, AreAllTold}
use Rattle.tell_steps.proofs.whole.told_with.Given as goal

-- what is told, and what is told of what is left, is told of all
abbrev pub invariant-loop-step : goal.invariant-loop-step
invariant-loop-step l = record {
  orders : All (IsOrder (log_of l.chains)) l.earlier.items;
  earlier : l.earlier.items ++ orders_of (drop l.step-index l.steps) ≡ orders_of l.steps;
  built : AreBuilt l.chains [] l.steps → AreBuilt l.chains l.earlier.items (drop l.step-index l.steps);
  told : (after : List Item) → AreStepsTold l.chains l.earlier.items (drop l.step-index l.steps) after → AreStepsTold l.chains [] l.steps (l.items.items ++ after);
}

abbrev pub invariant-loop-round : goal.invariant-loop-round
invariant-loop-round l = record {
  orders : All (IsOrder (log_of l.chains)) l.earlier.items;
  earlier : l.earlier.items ≡ orders_of l.steps;
  told : (after : List Item) → AreRoundsTold l.chains (orders_of l.steps) (map round_view (drop l.round-index l.rounds)) after → AreAllTold l.chains l.steps (map round_view l.rounds) (l.items.items ++ after);
}
