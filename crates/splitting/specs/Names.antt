-- The numbers of keys as they are found, and the names that they make.
use Rattle.std.specs.Prelude.{◌≡◌, ℕ, ◌+◌, Bool, true, false, if◌then◌else◌, List, length, Option, Some, None, decimal}
use Rattle.std.specs.List.{list_any}
use Rattle.std.specs.Option.{option_map_or, unwrap_or}
use Rattle.std.specs.Str.{bytes_eq}
use Rattle.log_definitions.specs.WellFormed.{first_seen}
use Rattle.log_definitions.specs.Numbers.{number_in}
use Rattle.key_tables.specs.Parts.{held_by}
use Rattle.splitting.specs.Locks.{lock_key}
use Rattle.splitting.specs.declared.numbers.KeyNumbers.{KeyNumbers}
use Rattle.splitting.specs.declared.names.Names.{Names}

-- these keys have their numbers from 1, and others have none
pub record AreNumbers (keys : List (List ℕ)) (numbers : KeyNumbers) : Type 0 where
  pub next : numbers.next ≡ length keys + 1
  pub held : (key : List ℕ) → held_by numbers.table key
      ≡ (if list_any (bytes_eq key) keys then Some (number_in keys key + 1) else None)

-- so these keys are added
abbrev pub Adds : KeyNumbers → List (List ℕ) → KeyNumbers → Type 0
Adds old more new = (keys : List (List ℕ)) → AreNumbers keys old
    → AreNumbers (first_seen keys more) new

-- the number of a key, or the next one
abbrev pub number_by : KeyNumbers → List ℕ → ℕ
number_by numbers key = unwrap_or (held_by numbers.table key) numbers.next

-- the name of a key: its number where there are numbers, and else itself
abbrev pub name_by : Names → List ℕ → List ℕ
name_by names key = option_map_or (λ numbers. decimal (number_by numbers key)) names.numbers key

abbrev pub lock_by : Names → List ℕ → List ℕ
lock_by names key = lock_key names.marks (name_by names key)

-- keys are numbered where they are long
abbrev pub NumbersWhere : Bool → List (List ℕ) → Option KeyNumbers → Type 0
NumbersWhere true keys (Some numbers) = AreNumbers keys numbers
NumbersWhere true keys None = ⊥
NumbersWhere false keys (Some numbers) = ⊥
NumbersWhere false keys None = Unit {0}
