use Rattle.write_chains.proofs.Prelude.{◌≡◌, ℕ, ◌+◌, ◌-◌, ◌<◌, Option, length, IsTable, end_by}
use Rattle.write_chains.proofs.chain.tail_of.Given as goal

abbrev pub invariant-loop-step : goal.invariant-loop-step
invariant-loop-step l = record {
  within : l.tail < length l.next;
  walk : (n : ℕ) (f : ℕ → Option ℕ) → IsTable n f l.next → end_by f (n + 1 - l.step) l.tail ≡ end_by f n l.fn.head;
}
