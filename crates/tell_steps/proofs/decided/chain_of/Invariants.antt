use Rattle.tell_steps.proofs.Prelude.{◌≢◌, take}
use Rattle.std.proofs.Common.{All}
use Rattle.tell_steps.proofs.decided.chain_of.Given as goal

abbrev pub invariant-loop-chain : goal.invariant-loop-chain
invariant-loop-chain l = All (λ c. c.head ≢ l.head) (take l.chain-index l.others)
