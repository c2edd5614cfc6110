-- The keys of a log with the most faults.
use Rattle.std.specs.Prelude.{◌≡◌, ◌⊎◌, ℕ, ◌+◌, ◌<◌, ◌≤◌, ◌&&◌, nat_lt, Bool, false, List, length, count_by}
use Rattle.std.specs.List.{All, AllPairs, Contains}
use Rattle.std.specs.Option.{option_map_or}
use Rattle.std.specs.Ordering.{nat_cmp}
use Rattle.std.specs.Str.{bytes_eq}
use Rattle.std.specs.Cmp.Lexicographic.{slice_cmp}
use Rattle.std.specs.declared.cmp.Ordering.TheVariants.{Less}
use Rattle.session_log.specs.Text.{ClientSession, Transaction}
use Rattle.census.specs.Reads.{committed_in, faults_in}
use Rattle.census.specs.Updates.{first_read, updates}
use Rattle.census.specs.declared.numbers.KeyFaults.{KeyFaults}

-- ---- how many faults a key has

-- the transaction updates a version of the key, and of these transactions more than one does
abbrev pub loses_at : List Transaction → List ℕ → Transaction → Bool
loses_at ts key t = option_map_or (λ wid. updates key wid t
    && nat_lt 1 (count_by (updates key wid) ts)) (first_read key t.ops) false

-- how many reads of the key are faults, and how many committed transactions are in a lost update of
-- it
unfoldable pub faults_of : List ClientSession → List ℕ → ℕ
faults_of ss key = count_by (λ f. bytes_eq key f.1) (faults_in ss)
    + count_by (loses_at (committed_in ss) key) (committed_in ss)

-- ---- the worst keys

-- it has more faults than the other, or as many and a name that stands before the other's
abbrev pub IsWorse : KeyFaults → KeyFaults → Type 0
IsWorse a b = (b.faults < a.faults)
    ⊎ ((a.faults ≡ b.faults) × (slice_cmp nat_cmp a.key b.key ≡ Less))

-- These are all keys with a fault, or the ten worst of them, the worst first, each with its number
-- of faults.
pub record AreWorst (faults : List ℕ → ℕ) (lines : List KeyFaults) : Type 0 where
  pub counted : All (λ (l : KeyFaults). (0 < l.faults) × (l.faults ≡ faults l.key)) lines
  pub ordered : AllPairs IsWorse lines
  pub few : length lines ≤ 10
  pub rest : (key : List ℕ) → 0 < faults key
      → let line : KeyFaults = record { key = key; faults = faults key } in
      Contains lines line ⊎ ((length lines ≡ 10) × All (λ (l : KeyFaults). IsWorse l line) lines)
