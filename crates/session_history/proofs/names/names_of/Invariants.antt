use Rattle.session_history.proofs.Prelude.{◌≡◌, ℕ, ◌+◌, ◌-◌, length, drop, get, name_cmp, node_among}
use Rattle.session_history.proofs.names.names_of.Given as goal

abbrev pub invariant-loop-i : goal.invariant-loop-i
invariant-loop-i l = (session place : ℕ) → get name_cmp l.names (session, place) ≡ node_among session place (length l.nodes - l.i + 1) (drop (length l.nodes - l.i) l.nodes)
