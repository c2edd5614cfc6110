-- What is said of each fault, where a log may have so many bytes. What is wrong with the form of a line is free; so is how an identity
-- that is written twice is named, where the earlier line of two stands, and which of two is said
-- outside a transaction.
use Rattle.std.specs.Prelude.{◌≡◌, ◌⊎◌, ℕ, List, ◌++◌, codes, decimal}
use Rattle.session_log.specs.declared.fault.Limit.{Limit}
use Rattle.session_log.specs.declared.fault.Limit.TheVariants as limit
use Rattle.session_log.specs.declared.fault.LogFault.{LogFault}
use Rattle.session_log.specs.declared.fault.LogFault.TheVariants as fault
use Rattle.session_log.specs.declared.limits.TheConstants.{MAX_SESSIONS, MAX_OPERATIONS, MAX_KEYS}
use Rattle.serializability.specs.declared.node.TheConstants.{MAX_NODES}

-- something, these words of it, and perhaps more
pub record Says (what words text : List ℕ) : Type 0 where
  pub more : List ℕ
  pub is : text ≡ what ++ words ++ more

-- the same of something that is not told
pub record SaysOfSome (words text : List ℕ) : Type 0 where
  pub what : List ℕ
  pub more : List ℕ
  pub is : text ≡ what ++ words ++ more

abbrev pub more_than : ℕ → List ℕ → List ℕ
more_than most things = codes "the log has more than " ++ decimal most ++ things

abbrev pub IsLimitSaid : ℕ → Limit → List ℕ → Type 0
IsLimitSaid most limit.LogBytes text = text ≡ more_than most (codes " bytes")
IsLimitSaid most limit.Sessions text = text ≡ more_than MAX_SESSIONS (codes " sessions")
IsLimitSaid most limit.Operations text = text ≡ more_than MAX_OPERATIONS (codes " reads and writes")
IsLimitSaid most limit.Committed text =
    text ≡ more_than MAX_NODES (codes " transactions that are committed or unknown")
IsLimitSaid most limit.Keys text = text ≡ more_than MAX_KEYS (codes " keys")

abbrev pub IsOutsideSaid : List ℕ → Type 0
IsOutsideSaid text = (text ≡ codes "no transaction is open here: a `begin` is missing")
    ⊎ (text ≡ codes "the line stands before the first session")

abbrev pub IsSaidOf : ℕ → LogFault → List ℕ → Type 0
IsSaidOf most (fault.BadLine line) text = Unit {0}
IsSaidOf most (fault.SessionTwice line) text = Says (codes "this session") (codes " began before") text
IsSaidOf most (fault.OutsideTransaction line) text = IsOutsideSaid text
IsSaidOf most (fault.OpenTransaction line) text =
    text ≡ codes "the transaction that begins here has no `commit`, `abort` or `unknown`"
IsSaidOf most (fault.WriteZero line) text =
    text ≡ codes "identity 0 is that of the initial value, and no write can have it"
IsSaidOf most (fault.WriteTwice line) text = SaysOfSome (codes " was written before") text
IsSaidOf most (fault.OverLimit which) text = IsLimitSaid most which text
IsSaidOf most fault.Memory text = text ≡ codes "out of memory"
IsSaidOf most (fault.UnknownNotLast line) text = text
    ≡ codes "the transaction stands behind one whose outcome is unknown: it needs a session of its own"
IsSaidOf most (fault.EndsBeforeBegin line) text =
    text ≡ codes "the transaction ends at an earlier moment than it begins"
