-- The part of a log that is chosen by its transactions.
use Rattle.std.specs.Prelude.{◌⊎◌, ℕ, ◌+◌, Bool, true, IsTrue, if◌then◌else◌, nat_eq, List, [], ◌∷◌, map}
use Rattle.std.specs.List.{filter, list_any}
use Rattle.session_log.specs.Text.{ClientSession, Transaction}
use Rattle.session_log.specs.declared.session.Op.{Op}
use Rattle.session_log.specs.declared.session.Op.TheVariants.{Read, Write}
use Rattle.log_definitions.specs.Unknown.{ops_in}
use Rattle.log_definitions.specs.WellFormed.{written}
use Rattle.log_laws.specs.Logs.{IsSoundLog, present}
use Rattle.part_laws.specs.Parts.{IsThinned, IsSessionPart, IsPart}

-- whether a transaction is flagged: by its session's number and its place in the session from 1,
-- every transaction counted
abbrev pub Flags : Type 0
Flags = ℕ → ℕ → Bool

-- of these transactions, the first of which has this place, the flagged ones
abbrev pub flagged : (ℕ → Bool) → ℕ → List Transaction → List Transaction
flagged flags place [] = []
flagged flags place (t ∷ ts) = if flags place then t ∷ flagged flags (place + 1) ts else flagged
    flags (place + 1) ts

-- the sessions that have any, with these alone
abbrev pub all_flagged : Flags → List ClientSession → List ClientSession
all_flagged flags ss = present
    (map (λ s. record { number = s.number; txns = flagged (flags s.number) 1 s.txns }) ss)

-- every write, and the reads of an identity that passes
abbrev pub stays : (ℕ → Bool) → Op → Bool
stays known (Read key wid) = known wid
stays known (Write key wid) = true

abbrev pub thin_txn : (ℕ → Bool) → Transaction → Transaction
thin_txn known t = record {
  ops = filter (stays known) t.ops;
  outcome = t.outcome;
  begun = t.begun;
  ended = t.ended;
}

abbrev pub thin : (ℕ → Bool) → List ClientSession → List ClientSession
thin known ss = map (λ s. record { number = s.number; txns = map (thin_txn known) s.txns }) ss

-- 0, or what these sessions write
abbrev pub is_source : List ClientSession → ℕ → Bool
is_source ss wid = list_any (nat_eq wid) (0 ∷ written (ops_in ss))

-- the flagged transactions with all that they write, and of what they read 0 and what they write
unfoldable pub part_by : Flags → List ClientSession → List ClientSession
part_by flags ss = thin (is_source (all_flagged flags ss)) (all_flagged flags ss)

abbrev pub ChosenIsPart : Type 0
ChosenIsPart = (ss : List ClientSession) (flags : Flags) → IsSoundLog ss
    → IsPart ss (part_by flags ss)

-- Whichever transactions stay, they are a part with all that they write, and with no read but of
-- such identities and of those that the log does not write.
abbrev pub ThinnedIsPart : Type 0
ThinnedIsPart =
    (ss some : List ClientSession) (known : ℕ → Bool) → IsSoundLog ss
    → IsThinned IsSessionPart ss some
    → ((wid : ℕ) → IsTrue (known wid) → IsTrue (is_source some wid)
    ⊎ (IsTrue (is_source ss wid) → ⊥)) → IsPart ss (thin known some)
