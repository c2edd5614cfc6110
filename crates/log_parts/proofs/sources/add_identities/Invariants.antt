use Rattle.log_parts.proofs.Prelude.{◌≡◌, ◌||◌, ℕ, map, nat_cmp, contains, view, ops_in, has_named, picked, flags_view}
use Rattle.log_parts.proofs.Steps.{picked_from}
use Rattle.log_parts.proofs.sources.add_identities.Given as goal

abbrev pub invariant-loop-i : goal.invariant-loop-i
invariant-loop-i l = (wid : ℕ) → (contains nat_cmp l.wids wid || has_named l.kind (ops_in (picked_from l.flags l.i l.sessions)) wid) ≡ (contains nat_cmp l.fn.wids wid || has_named l.kind (ops_in (picked (flags_view l.flags) (map view l.sessions))) wid)
