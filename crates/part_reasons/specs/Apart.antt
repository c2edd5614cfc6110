-- Whether a part has a serial order without that of sessions: with each of its transactions in a
-- session of its own. The moments that it states still count.
use Rattle.std.specs.Prelude.{◌≡◌, ◌⊎◌, ℕ, ◌+◌, ◌<◌, Bool, true, false, List, [], ◌∷◌, length, Some}
use Rattle.session_log.specs.Text.{ClientSession, Transaction}
use Rattle.session_log.specs.Version.{first_line}
use Rattle.session_log.specs.declared.fault.LogFault.{LogFault}
use Rattle.session_log.specs.declared.version.Version.TheVariants.{One}
use Rattle.log_definitions.specs.Serial.{IsSerialOrder}
use Rattle.log_definitions.specs.Unknown.{txns_in}
use Rattle.log_definitions.specs.WellFormed.{log_lines, list_fault}
use Rattle.polygraph.specs.declared.fault.PolyFault.TheVariants.{TooManyChoices}
use Rattle.reduction.specs.Outcome.{IsReduceFault}
use Rattle.deciding.specs.Decides.{Decides}
use Rattle.deciding.specs.declared.decision.Decision.{Decision}
use Rattle.deciding.specs.declared.decision.Decision.TheVariants.{Serial}
use Rattle.judging.specs.declared.level.Level.{Level}
use Rattle.judging.specs.declared.level.Level.TheVariants as level
use Rattle.judging.specs.declared.means.JudgeMeans.{JudgeMeans}
use Rattle.part_reasons.specs.declared.explaining.TheConstants.{MANY_LINES}
use Rattle.session_log.specs.declared.limits.TheConstants.{MAX_SESSIONS}

-- these transactions, each in a session of its own, of which the first has this number
abbrev pub singles : ℕ → List Transaction → List ClientSession
singles n [] = []
singles n (t ∷ ts) = record { number = n; txns = t ∷ [] } ∷ singles (n + 1) ts

-- a log without the order of its sessions
abbrev pub apart : List ClientSession → List ClientSession
apart ss = singles 1 (txns_in ss)

abbrev pub is_order : Decision → Bool
is_order (Serial order) = true
is_order _ = false

-- whether a search within the budget finds an order of these
abbrev pub IsFound : ℕ → List ClientSession → Bool → Type 0
IsFound budget ss true = (order : List ℕ) × IsSerialOrder ss order
IsFound budget ss false = IsReduceFault ss TooManyChoices
    ⊎ ((d : Decision) × Decides budget ss d × (is_order d ≡ false))

-- it has more sessions than `check` takes, or more lines than any log, or breaks another limit
pub data IsTooLargeApart (ss : List ClientSession) : Type 0 where
  many : MAX_SESSIONS < length (txns_in ss) → IsTooLargeApart ss
  long : MANY_LINES < length (log_lines (apart ss)) → IsTooLargeApart ss
  limit : (f : LogFault) → list_fault (first_line One) (apart ss) ≡ Some f → IsTooLargeApart ss

-- whether an order of it is found without that of sessions
abbrev pub IsSerialApart : ℕ → List ClientSession → Bool → Type 0
IsSerialApart budget ss told = IsFound budget (apart ss) told ⊎ ((told ≡ false) × IsTooLargeApart ss)

-- that is asked of serial orders alone
abbrev pub IsSerialApartAt : Level → ℕ → List ClientSession → Bool → Type 0
IsSerialApartAt level.Serializable budget ss told = IsSerialApart budget ss told
IsSerialApartAt _ budget ss told = told ≡ false

-- where it is asked for
abbrev pub IsSerialApartWhere : Bool → JudgeMeans → List ClientSession → Bool → Type 0
IsSerialApartWhere false m ss told = told ≡ false
IsSerialApartWhere true m ss told = IsSerialApartAt m.level m.deciding.budget ss told
