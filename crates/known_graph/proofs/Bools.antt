-- Tests that are joined.
use Rattle.known_graph.proofs.Prelude.{◌≡◌, Bool, false, ◌||◌, ap}

pub or_second : (a b : Bool) → a ≡ false → (a || b) ≡ b
or_second a b e = ap (λ x. x || b) e
