-- The sources of workers.
use Rattle.reach_rows.proofs.Prelude.{◌≡◌, ℕ, ◌+◌, ◌-◌, ◌<◌, ◌≤◌, List, length, get_or, ap, zero, suc, arith, ArePartStarts}

-- each start is within the sources
starts_up : (sources : ℕ) (starts : List ℕ) → ArePartStarts sources starts → (i k : ℕ) → i + k < length starts → get_or starts i 0 ≤ get_or starts (i + k) 0
starts_up sources starts h i zero lt = grind arith
starts_up sources starts h i (suc k) lt = grind (arith, starts_up sources starts h i k (omega (arith, lt)))

pub starts_within : (sources : ℕ) (starts : List ℕ) → ArePartStarts sources starts → (i : ℕ) → i < length starts → get_or starts i 0 ≤ sources
starts_within sources starts h i lt =
    let k = length starts - 1 - i in
    let end : i + k ≡ length starts - 1 = omega (arith, lt) in
    omega (arith, starts_up sources starts h i k (omega (arith, lt)), ap (λ j. get_or starts j 0) end, h.last)
