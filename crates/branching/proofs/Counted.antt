-- Bounds of the numbers of edges, and searches that end at them.
use Rattle.branching.proofs.Prelude.{◌≡◌, ℕ, zero, suc, ◌<◌, ◌≤◌, List, [], ◌∷◌, length, map, drop, Option, Some, None, refl, arith, slice_index, le-ltb, cond-false, length-drop, Choice, Side, size_of, edge_count, has_fewer, or_better}
use Rattle.branching.proofs.Prelude.{first_best, open_past, Listed, best_listed, found_listed}
use Rattle.branching.proofs.Opens.{open_within}

-- the number of edges in the list of these numbers
pub counted : (hs : List Choice) (c : ℕ) → slice_index (map size_of hs) c ≡ edge_count hs c
counted [] c = refl
counted (h ∷ hs) zero = refl
counted (h ∷ hs) (suc c) = counted hs c

-- a listed choice is one of those there are
pub listed_within : (sides : List (Option Side)) (from c : ℕ) → Listed (open_past sides from) c → c < length sides
listed_within sides from c l =
    let f = found_listed (drop from sides) from l.0 c l.1 in
    let w = f.whole in let lt = open_within (drop from sides) f.place f.free in let n = length-drop from sides in
    omega (arith, w, lt, n)

-- ---- none is below
least_of : (choices : List Choice) (b : ℕ) (o : Option ℕ) → ((d : ℕ) → o ≡ Some d → edge_count choices b ≤ edge_count choices d) → or_better (has_fewer choices) b o ≡ Some b
least_of choices b None h = refl
least_of choices b (Some d) h = cond-false {A = Option ℕ} (has_fewer choices d b) (Some d) (Some b) (le-ltb (edge_count choices d) (edge_count choices b) (h d refl))

pub least_found : (choices : List Choice) (b n : ℕ) (sides : List (Option Side)) (from : ℕ) → length sides ≡ n → ((d : ℕ) → d < n → edge_count choices b ≤ edge_count choices d)
    → or_better (has_fewer choices) b (first_best (has_fewer choices) (open_past sides from)) ≡ Some b
least_found choices b n sides from e h =
    least_of choices b (first_best (has_fewer choices) (open_past sides from))
    (λ d is. (let lt = listed_within sides from d (best_listed (has_fewer choices) (open_past sides from) d is) in h d (omega (arith, lt, e))))
