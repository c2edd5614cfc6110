use Rattle.branch_search.proofs.Prelude.{◌≡◌, ℕ, length, Polygraph, IsLegal, replay, opening_state, next_of, reply_of}
use Rattle.branch_search.proofs.Planted.{Standing}
use Rattle.branch_search.proofs.growing.tree_of.Given as goal

abbrev pub invariant-loop-step : goal.invariant-loop-step
invariant-loop-step l =
    (length l.held ≡ 17)
    × ((p : Polygraph) (budget : ℕ) → IsLegal next_of reply_of (opening_state p budget) l.fn.steps.items
    → Standing p (replay next_of (opening_state p budget) l.fn.steps.items) l.nodes.items l.held l.step-iterator.rest.items)
