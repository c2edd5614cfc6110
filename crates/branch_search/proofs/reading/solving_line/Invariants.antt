use Rattle.branch_search.proofs.Prelude.{◌≡◌, list_any, Entry, CubeEvent, CubeReply, solves}
use Rattle.branch_search.proofs.reading.solving_line.Given as goal

abbrev pub invariant-loop-step : goal.invariant-loop-step
invariant-loop-step l =
    list_any (λ (x : Entry CubeEvent CubeReply). solves x.event x.reply) l.step-iterator.rest.items
    ≡ list_any (λ (x : Entry CubeEvent CubeReply). solves x.event x.reply) l.fn.steps.items
