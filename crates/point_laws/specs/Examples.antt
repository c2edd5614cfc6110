-- Two logs that show what snapshot isolation is: one that it allows, though it has no serial order,
-- and one that it refuses.
use Rattle.std.specs.Prelude.{ℕ, List, [], ◌∷◌, None}
use Rattle.session_log.specs.Text.{ClientSession}
use Rattle.session_log.specs.declared.session.Op.{Op}
use Rattle.session_log.specs.declared.session.Op.TheVariants.{Read, Write}
use Rattle.session_log.specs.declared.session.Outcome.TheVariants.{Commit}
use Rattle.log_laws.specs.Logs.{HasOrder}
use Rattle.point_laws.specs.Snapshot.{HasSnapshotOrder}

-- a session of one transaction that committed
abbrev pub one_txn : ℕ → List Op → ClientSession
one_txn number ops = record {
  number = number;
  txns = record { ops = ops; outcome = Commit; begun = None; ended = None } ∷ [];
}

-- the keys x and y
abbrev pub x : List ℕ
x = 120 ∷ []

abbrev pub y : List ℕ
y = 121 ∷ []

-- both read both keys as they were at first, and each writes another one
abbrev pub write_skew : List ClientSession
write_skew =
    one_txn 1 (Read x 0 ∷ Read y 0 ∷ Write x 1 ∷ [])
    ∷ one_txn 2 (Read x 0 ∷ Read y 0 ∷ Write y 2 ∷ []) ∷ []

-- both read a key as it was at first, and write it
abbrev pub lost_update : List ClientSession
lost_update = one_txn 1 (Read x 0 ∷ Write x 1 ∷ []) ∷ one_txn 2 (Read x 0 ∷ Write x 2 ∷ []) ∷ []

abbrev pub AllowsWriteSkew : Type 0
AllowsWriteSkew = HasSnapshotOrder write_skew × (HasOrder write_skew → ⊥)

abbrev pub RefusesLostUpdate : Type 0
RefusesLostUpdate = HasSnapshotOrder lost_update → ⊥
