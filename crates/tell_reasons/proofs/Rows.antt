-- The rows of nodes.
use Rattle.tell_reasons.proofs.Prelude.{◌≡◌, ℕ, zero, suc, ◌-◌, ◌<◌, List, [], ◌∷◌, map, Option, refl, ap, ◌∙◌, arith, slice_get, Bor, slice_index_or, option_map_or, view_place, no_row, PlacedHistory}
use Rattle.log_lines.specs.Placed.{row_in}
use Rattle.log_lines.specs.declared.places.TxnPlace.{TxnPlace}

listed : (rows : List (Bor TxnPlace)) (i : ℕ) → option_map_or (λ p. view_place p.now) (slice_get rows i) no_row ≡ slice_index_or (map (λ (p : Bor TxnPlace). view_place p.now) rows) i no_row
listed [] i = refl
listed (p ∷ rows) zero = refl
listed (p ∷ rows) (suc i) = listed rows i

-- that of node v is element v - 1
pub row_got : (log : PlacedHistory) (v : ℕ) (o : Option (Bor TxnPlace)) → 0 < v → o ≡ slice_get log.nodes.items (v - 1) → option_map_or (λ p. view_place p.now) o no_row ≡ row_in log v
row_got log zero o low e = absurd (omega arith)
row_got log (suc i) o low e =
    let at : suc i - 1 ≡ i = omega arith in
    ap (λ (p : Option (Bor TxnPlace)). option_map_or (λ p. view_place p.now) p no_row) (e ∙ ap (slice_get log.nodes.items) at) ∙ listed log.nodes.items i
