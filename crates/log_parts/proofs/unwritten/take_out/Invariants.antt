use Rattle.log_parts.proofs.Prelude.{◌≡◌, ◌&&◌, not, map, ℕ, nat_cmp, drop, contains, view, ops_in, wrote}
use Rattle.log_parts.proofs.unwritten.take_out.Given as goal

abbrev pub invariant-loop-session : goal.invariant-loop-session
invariant-loop-session l = (wid : ℕ) → (contains nat_cmp l.wids wid && not (wrote (ops_in (map view (drop l.session-index l.sessions))) wid)) ≡ (contains nat_cmp l.fn.wids wid && not (wrote (ops_in (map view l.sessions)) wid))
