-- What the proofs of this crate name of other modules.
pub use Rattle.point_laws.specs.Points.{points_of_node, points_from, points_at, points_along, PointsOfWriters}
pub use Rattle.point_laws.specs.Snapshot.{Point, snapshot, commit, number, snapshot_reads, rest, ops_at, IsPointOrder, StandsBefore, is_in, snapshot_reads_behind, rest_behind, HasPointOrder, HasSomePointOrder}
pub use Rattle.point_laws.specs.Split.{SnapshotWhereSerial, Locks, SomeAreFresh, HasWritten, AreFresh, AreLegalLocks, first_writes_behind, locked_writes, take_lock, find_lock, start_ops, end_ops, split_txn, split, split_writers, is_writer}
pub use Rattle.point_laws.specs.Split.{SplitIsLog, ResolvedSplitIsLog, HasKey, OrdersOfSplit, SnapshotBySplit, first_writes, SnapshotByWriters, PrefixWhereSnapshot, SnapshotOfResolved, PointsOfTaken, SnapshotOfTaken, PrefixOfTaken}
pub use Rattle.point_laws.specs.Without.{without, without_moments, PointsWithoutMoments, SnapshotWithoutMoments, PrefixWithoutMoments, session_without}
pub use Rattle.list_lemmas.proofs.Elements.{behind, mapped, contains_at}
pub use Rattle.log_definitions.proofs.Chosen.{Has-written, others_lack}
pub use Rattle.log_definitions.proofs.Identities.{Lacks, WriteOnce, WriteOnce-filter, once_resolved, apart_at, one_writer}
pub use Rattle.log_definitions.proofs.Members.{member, themselves, each_member, each_weaker, any_member}
pub use Rattle.log_definitions.proofs.OnlyTaken.{orders_from_serial, marked, all_marked, kept_marked, counts_once, settled_nodes}
pub use Rattle.log_definitions.proofs.Renumbered.{Orders, session_at, begun_at, ended_at, Marked, all_nodes, kept_nodes}
pub use Rattle.log_definitions.proofs.Scanning.{written-append}
pub use Rattle.log_definitions.proofs.Settled.{txn_ops, each_of_settled, ops_settled, learnt_resolved, IsLearnt, each_from_settled, numbers_settled, settled_resolved, outcome_learnt}
pub use Rattle.log_definitions.proofs.Taken.{Counts, each_of_committed, each_from_committed, resolved_is, taken_closed, taken_least}
pub use Rattle.log_definitions.specs.Serial.{Map, set, Replays, Committed, ops_of, initial, begun_of, ended_of, node_in, session_of, committed_of, IsSerialOrder}
unfoldable pub use Rattle.log_definitions.specs.Serial.{committed_in, node_of}
pub use Rattle.log_definitions.specs.Unknown.{is_committed, txns_in, ops_in, settled_as, settle, committed_ops, IsNeeded, IsClosed, IsWithin, resolved, is_unknown, reads_of, is_needed, taking, taking_times}
unfoldable pub use Rattle.log_definitions.specs.Unknown.{settled, taken}
pub use Rattle.log_definitions.specs.WellFormed.{written}
pub use Rattle.log_laws.proofs.Identities.{ops_of_nodes, not_both, once_front, once_back, ops_by, ordered_node, all_writes}
pub use Rattle.log_laws.proofs.Lines.{ops_along, EachPair}
pub use Rattle.log_laws.proofs.Lists.{in_flat, of_flat, of_mapped, node_with, first_or_behind, none_pass, all_pass}
pub use Rattle.log_laws.proofs.Replay.{after, Replays-append}
pub use Rattle.log_laws.proofs.Sessions.{nodes_of, nodes_from}
pub use Rattle.log_laws.specs.Logs.{IsLearntLog, HasOrder, IsSoundLog, IsLog}
pub use Rattle.part_laws.proofs.Nodes.{IsNodePart, AreNodes, nodes_of_part}
pub use Rattle.part_laws.proofs.Replay.{read_is_no_write, KeepsSources, replays_less}
pub use Rattle.part_laws.proofs.Thinned.{IsSublist, was_in, thinned_same, thinned_none, thinned_append}
pub use Rattle.part_laws.specs.Parts.{done, left, kept, IsPart}
pub use Rattle.serializability.proofs.Listed.{once_apart, once_length, IsDistinct-from_Apart, Has_get}
pub use Rattle.serializability.proofs.Places.{Has, Apart, each_of_filter, Has-from_Contains, place_of-here, place_of-further, Contains-from_Has, each_from_flat_map, Apart-from_IsDistinct, Has-append_front, Has-append_back, Has-append_cases}
pub use Rattle.serializability.proofs.Places.{each_from_append, each_from_map, Apart-append, each_of_flat_map, place_of-front, place_of-back}
pub use Rattle.serializability.proofs.Serial.{behind_zero}
pub use Rattle.serializability.specs.Replay.{ListsOnce, place_of, Before}
pub use Rattle.session_log.specs.Moments.{is_earlier}
pub use Rattle.session_log.specs.Text.{key_of, ClientSession, Transaction, is_commit, IsLegal, IsLegalOp, IsLegalTxn, IsKnown, is_write, MayEndAt, IsKnownBeforeLast}
pub use Rattle.session_log.specs.declared.session.Op.{Op}
pub use Rattle.session_log.specs.declared.session.Op.TheVariants.{Read, Write}
pub use Rattle.session_log.specs.declared.session.Outcome.TheVariants.{Unknown, Commit, Abort}
pub use Rattle.std.proofs.Common.{◌≡◌, ℕ, Bool, true, false, not, List, [], ◌∷◌, ◌++◌, refl, sym, ap, ◌∙◌, inl, inr, ◌≢◌, ◌⊎◌, zero, suc, ◌*◌, ◌<◌, ◌≤◌, arith, length, map, Some, subst, get_or, ◌+◌, Option, None, cond, append-nil, ◌-◌}
pub use Rattle.std.proofs.Common.{◌==◌, ◌&&◌, ◌||◌}
pub use Rattle.std.proofs.lemmas.Bool.{cases_Bool, false≢true, cases_eq, cases_order, or_from, or_parts, or_left}
pub use Rattle.std.proofs.lemmas.List.{length-map, map-append}
pub use Rattle.std.proofs.lemmas.List.Concat.{flat_map-append}
pub use Rattle.std.proofs.lemmas.List.Elements.{filter-append, Contains-append_left, Contains-append_right}
pub use Rattle.std.proofs.lemmas.Option.{slice_get-get_or, same_Some, slice_get-map}
pub use Rattle.std.proofs.lemmas.Slice.Eq.{bytes_eq-Decides}
pub use Rattle.std.specs.List.{filter, flat_map, AllByRecursion, Contains, list_any, IsDistinct}
pub use Rattle.std.specs.Option.{option_map_or, option_map}
pub use Rattle.std.specs.Prelude.{◌↔◌, slice_get, option_and_then, nat_eq, unwrap_or}
pub use Rattle.std.specs.Str.{bytes_eq}
