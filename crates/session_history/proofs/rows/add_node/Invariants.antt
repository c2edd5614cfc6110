use Rattle.session_history.proofs.Prelude.{◌≡◌, ℕ, ◌<◌, length, take, RowView, IsBelow, AreRows, row_after}
use Rattle.session_history.proofs.rows.add_node.Given as goal

abbrev pub invariant-loop-event : goal.invariant-loop-event
invariant-loop-event l = record {
  count : length l.rows.items ≡ length l.initial.rows.items;
  rows : (keys : ℕ) (f : ℕ → RowView) → ((x : ℕ) → x < keys → IsBelow l.node (f x)) → AreRows keys f l.initial.rows.items
      → AreRows keys (λ x. row_after (f x) x l.node (take l.event-index l.events)) l.rows.items;
}
