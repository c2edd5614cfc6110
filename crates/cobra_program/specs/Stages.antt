-- How far an audit is, in a line.
use Rattle.std.specs.Prelude.{ℕ, zero, suc, ◌-◌, ◌*◌, ◌/◌, ◌^◌, nat_lt, Bool, true, min, List, ◌++◌, codes, decimal, Option, None, Some}
use Rattle.std.specs.Time.{instant_nanos}
use Rattle.std.specs.declared.time.Instant.{Instant}
use Rattle.progress.specs.declared.stages.Stage.{Stage}
use Rattle.progress.specs.declared.stages.Stage.TheVariants.{Read, Round, Merging, Searching}

-- how many hundredths so many of so many are; of none, all. Above 2^64 - 1 no product is counted
abbrev pub percent : ℕ → ℕ → ℕ
percent part zero = 100
percent part (suc n) = min (part * 100) (2 ^ 64 - 1) / suc n

-- the line of a stage, without its line feed
abbrev pub stage_line : Stage → List ℕ
stage_line (Read transactions) = codes "read " ++ (decimal transactions ++ codes " transactions")
stage_line (Round round) = codes "round " ++ decimal round
stage_line (Merging placed nodes) = codes "merging " ++ (decimal (percent placed nodes) ++ codes "%")
stage_line (Searching transactions) =
    codes "searching " ++ (decimal transactions ++ codes " transactions")

-- a second went by between these, or nothing was before
abbrev pub is_second_later : Option Instant → Instant → Bool
is_second_later None now = true
is_second_later (Some last) now =
    nat_lt 0 ((instant_nanos now - instant_nanos last) / 1000000000)
