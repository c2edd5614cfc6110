-- What is kept at a level is kept at a weaker one.
use Rattle.audit_command.proofs.Prelude.{◌≡◌, Bool, true, false, List, Option, None, Some, refl, subst, ◌&&◌, ◌||◌, AllByRecursion, ClientSession, IsLegal, resolved, IsSoundLog, HasOrder, nodes_stay, resolved_is_log, HasSnapshotOrder}
use Rattle.audit_command.proofs.Prelude.{without_moments, legal_without, sound_without, Level, HasOrderAt, serial_resolved, AuditOptions, Word, Answer, is_serial, asks_levels, asks_strict, asks_plain, at_snapshot, states_moments}
use Rattle.audit_command.proofs.Prelude.{IsWordWhere}
use Rattle.point_laws.proofs.Doubled.{snapshot_where_serial}
use Rattle.point_laws.proofs.Resolved.{of_same_nodes}
use Rattle.point_laws.proofs.Timeless.{snapshot_without_moments}
use Rattle.judging.specs.declared.level.Level.TheVariants as level
use Rattle.audit_report.specs.declared.told.Word.TheVariants as word
use Rattle.audit_report.specs.Words.{is_kept}

-- ---- what is asked
each_of : (x y z : Bool) → (x && y && z) ≡ true → ((x && (y || z)) ≡ true) × (y ≡ true)
each_of true true true e = (refl, refl)
each_of true true false e = cc
each_of true false z e = cc
each_of false y z e = cc

asked : (o : AuditOptions) (ss : List ClientSession) (a : Answer) → asks_strict o ss a ≡ true → (asks_plain o ss a ≡ true) × (is_serial o.means.level ≡ true)
asked o ss a e = each_of (asks_levels o a) (is_serial o.means.level) (states_moments (resolved ss)) e

serial_level : (l : Level) → is_serial l ≡ true → l ≡ level.Serializable
serial_level level.Serializable e = refl
serial_level level.Snapshot e = cc
serial_level level.Prefix e = cc
serial_level (level.Below below) e = cc

-- ---- what is kept
snapshot_of_order : (ss : List ClientSession) → AllByRecursion IsLegal ss → IsSoundLog ss → HasOrder ss → HasSnapshotOrder ss
snapshot_of_order ss legal sound (order, serial) =
    let log = resolved_is_log ss legal sound in
    of_same_nodes (resolved ss) ss (nodes_stay ss) (snapshot_where_serial (resolved ss) log.sound log.learnt (order, serial_resolved ss order serial))

by_snapshot : (o : AuditOptions) (ss : List ClientSession) (a : Answer) (s : Option Word) → IsWordWhere (at_snapshot o.means) ss (asks_strict o ss a) s → is_kept s ≡ true
    → IsWordWhere (at_snapshot o.means) (without_moments ss) (asks_plain o ss a) (Some word.Serializable)
by_snapshot o ss a (Some word.Serializable) k e = ((asked o ss a k.0).0, snapshot_without_moments ss k.1)
by_snapshot o ss a (Some word.NotSerializable) k e = cc
by_snapshot o ss a (Some word.Unknown) k e = cc
by_snapshot o ss a None k e = cc

pub plain_where_kept : (o : AuditOptions) (ss : List ClientSession) (a : Answer) (w s : Option Word) → AllByRecursion IsLegal ss → IsSoundLog ss
    → IsWordWhere o.means (without_moments ss) (asks_strict o ss a) w → IsWordWhere (at_snapshot o.means) ss (asks_strict o ss a) s
    → (is_kept w || is_kept s) ≡ true → IsWordWhere (at_snapshot o.means) (without_moments ss) (asks_plain o ss a) (Some word.Serializable)
plain_where_kept o ss a (Some word.Serializable) s legal sound h k e =
    let both = asked o ss a h.0 in
    let order = subst (λ l. HasOrderAt l (without_moments ss)) (serial_level o.means.level both.1) h.1 in
    (both.0, snapshot_of_order (without_moments ss) (legal_without ss legal) (sound_without ss legal sound) order)
plain_where_kept o ss a (Some word.NotSerializable) s legal sound h k e = by_snapshot o ss a s k e
plain_where_kept o ss a (Some word.Unknown) s legal sound h k e = by_snapshot o ss a s k e
plain_where_kept o ss a None s legal sound h k e = by_snapshot o ss a s k e
