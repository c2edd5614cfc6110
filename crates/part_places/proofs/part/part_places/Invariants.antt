use Rattle.part_places.proofs.Prelude.{◌≡◌, ℕ, Bool, ◌+◌, map, drop, length, view, first_line, log_lines, thin, flags_view, picked, view_place}
use Rattle.part_places.proofs.Added.{IsTable}
use Rattle.part_places.proofs.part.part_places.Given as goal

abbrev pub invariant-loop-at : goal.invariant-loop-at
invariant-loop-at l = record {
  rows : (known : ℕ → Bool) → map view l.part ≡ thin known (picked (flags_view l.flags) (map view l.sessions))
      → IsTable known l.flags l.sessions (map view l.part) (first_line l.fn.version) (map (λ s. map view_place s.items) l.table.items) l.line l.at;
  room : l.line + length (log_lines (map view (drop l.at l.sessions))) ≡ first_line l.fn.version + length (log_lines (map view l.sessions));
}
