-- What the proofs of this crate name of other modules.
pub use Rattle.point_laws.proofs.Intervals.{place, At}
pub use Rattle.point_laws.proofs.Nodes.{is_node, one_node, op_in_log, nodes_are, apart_node, session_kept, ops_kept}
pub use Rattle.point_laws.proofs.Orders.{before_place, lo_snapshot, lo_commit, stands}
pub use Rattle.point_laws.proofs.Resolved.{settled_sound, settled_learnt, ops_at, resolved_nodes}
pub use Rattle.point_laws.specs.Examples.{x, y, one_txn, lost_update}
pub use Rattle.point_laws.specs.Snapshot.{Point, snapshot, commit, number, IsPointOrder, HasPointOrder, HasPrefixOrder, is_in, snapshot_reads_behind, snapshot_reads, rest_behind, rest}
pub use Rattle.log_definitions.proofs.Chosen.{Has-written}
pub use Rattle.log_definitions.specs.Serial.{committed_in, ops_of, Committed, node_in, session_of, Map, set, initial, Replays}
unfoldable pub use Rattle.log_definitions.specs.Serial.{node_of}
pub use Rattle.log_definitions.specs.Unknown.{ops_in, settled, taken, IsClosed}
pub use Rattle.log_definitions.specs.WellFormed.{written}
pub use Rattle.log_laws.proofs.Lists.{first_or_behind}
pub use Rattle.log_laws.proofs.Sessions.{nodes_of}
pub use Rattle.log_laws.specs.Logs.{IsSoundLog, IsLearntLog}
pub use Rattle.part_laws.proofs.Replay.{read_is_no_write}
pub use Rattle.part_laws.proofs.Thinned.{IsSublist, was_in}
pub use Rattle.level_laws.specs.Examples.{circular_reads, RefusesCircle, AllowsLostUpdate, fractured_read, SplitsAtomic, unseen_cause, SplitsCausal, stale_read, SplitsView, long_fork, SplitsPrefix}
pub use Rattle.level_laws.specs.Ladder.{LevelWhereSnapshot, LevelWherePrefix, LevelWhereSerial, AtomicWhereCausal, ViewWhereAtomic, CommittedWhereView}
pub use Rattle.level_laws.specs.OfPart.{SomeLevelOfPart, LevelOfPart, LevelOfTaken, LevelWithoutMoments}
pub use Rattle.level_laws.specs.Seen.{ReadsFrom, last_write, ReadsBehind, IsEarlier, Direct, Past, step, path, FindsLast, HasLevelOrder, WritesKey, Sees, NoneSeen, IsLastSeen, IsLevelOrder, HasSomeLevelOrder}
pub use Rattle.level_laws.specs.declared.level.Level.{Level}
pub use Rattle.level_laws.specs.declared.level.Level.TheVariants.{ReadCommitted, MonotonicAtomicView, ReadAtomic, Causal}
pub use Rattle.serializability.proofs.Once.{places_apart}
pub use Rattle.serializability.proofs.Places.{Has, Apart, Apart-from_IsDistinct, Has-append_back, Has-append_cases, Apart-not_both, place_of-here, place_of-further, place_of-front, place_of-back}
pub use Rattle.serializability.proofs.Serial.{zero_first, some_cases, behind_zero}
pub use Rattle.serializability.specs.Replay.{Before, place_of, ListsOnce}
pub use Rattle.session_log.specs.Text.{ClientSession}
pub use Rattle.session_log.specs.declared.session.Op.{Op}
pub use Rattle.session_log.specs.declared.session.Op.TheVariants.{Read, Write}
pub use Rattle.std.proofs.Common.{refl, sym, subst, arith, ◌≡◌, Bool, ℕ, ◌*◌, ◌<◌, ◌≤◌, List, ◌∷◌, length, map, Some, inl, inr, ◌≢◌, ◌⊎◌, zero, suc, [], ◌++◌, None, ap, ◌∙◌, true, cond, Option, false, append_assoc}
pub use Rattle.std.proofs.lemmas.Bool.{cases_eq, false≢true, cases_lt, cases_Bool, lt-ltb, ltb-true, or_left}
pub use Rattle.std.proofs.lemmas.List.{map-append, length-map}
pub use Rattle.std.proofs.lemmas.List.Elements.{Contains-append_left, Contains-append_right, Contains-append_cases}
pub use Rattle.std.proofs.lemmas.Option.{same_Some}
pub use Rattle.std.proofs.lemmas.Slice.Eq.{bytes_eq-Decides}
pub use Rattle.std.specs.List.{Contains, flat_map}
pub use Rattle.std.specs.Option.{option_map_or, option_map}
pub use Rattle.std.specs.Str.{bytes_eq}
