-- The sessions and writes of lines that are joined.
use Rattle.log_definitions.proofs.Prelude.{◌≡◌, ℕ, ◌+◌, List, [], ◌∷◌, ◌++◌, length, arith, Line, sessions_from, writes_from}

pub sessions_from-append : (n : ℕ) (a b : List Line) → sessions_from n (a ++ b) ≡ sessions_from n a ++ sessions_from (n + length a) b
sessions_from-append n [] b = grind arith
sessions_from-append n (l ∷ a) b = grind (arith, sessions_from-append (n + 1) a b)

pub writes_from-append : (n : ℕ) (a b : List Line) → writes_from n (a ++ b) ≡ writes_from n a ++ writes_from (n + length a) b
writes_from-append n [] b = grind arith
writes_from-append n (l ∷ a) b = grind (arith, writes_from-append (n + 1) a b)
