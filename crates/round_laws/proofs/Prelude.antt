-- What the proofs of this crate name of other modules.
pub use Rattle.point_laws.proofs.Nodes.{start_node, end_node, both_nodes, split_nodes}
pub use Rattle.point_laws.proofs.Without.{txns_without, committed_ops_stay, stays_sound, resolved_without}
pub use Rattle.point_laws.specs.Snapshot.{snapshot_reads, snapshot_reads_behind, is_in, HasPointOrder, rest}
pub use Rattle.point_laws.specs.Split.{Locks, HasWritten, AreFresh, locked_writes, take_lock, find_lock, start_ops, end_ops}
pub use Rattle.point_laws.specs.Without.{without, session_without, without_moments}
pub use Rattle.list_lemmas.proofs.Elements.{contains_at, behind, mapped}
pub use Rattle.log_definitions.proofs.Chosen.{Has-written}
pub use Rattle.log_definitions.proofs.Members.{each_member, member, each_weaker, themselves, any_member}
pub use Rattle.log_definitions.proofs.Settled.{IsLearnt, learnt_resolved}
pub use Rattle.log_definitions.specs.Serial.{Committed, Map, initial, Replays, committed_in, set, committed_of}
pub use Rattle.log_definitions.specs.Unknown.{ops_in, is_committed, txns_in, committed_ops, is_unknown, settled_as, settle, taken, resolved, IsNeeded, IsWithin}
unfoldable pub use Rattle.log_definitions.specs.Unknown.{settled}
pub use Rattle.log_definitions.specs.WellFormed.{written}
pub use Rattle.log_laws.proofs.Identities.{ops_of_nodes, committed_within, one_writer, all_writes, ordered_node, ops_unshifted}
pub use Rattle.log_laws.proofs.Lines.{EachPair, IsLine, ops_along, MayPrecede}
pub use Rattle.log_laws.proofs.Lists.{NodeWith, node_with, first_or_behind, of_kept, kept, of_mapped, op_of_node, test_le, of_flat, in_flat, ops_within, EachPair-filter, EachPair-append, parts, mapped_within}
pub use Rattle.log_laws.proofs.Moments.{place_in, one_place, by_places, Alone, one_node}
pub use Rattle.log_laws.proofs.Orders.{InOrder, pair_at}
pub use Rattle.log_laws.proofs.Replay.{after, Replays-append, after-append, had_or_written, Agrees, replays_agree}
pub use Rattle.log_laws.proofs.Sessions.{nodes_of, in_order, Firsts, node_at, nodes_from, all_stand, unshift, early, early_is, late_is}
pub use Rattle.log_laws.proofs.Shifted.{nodes_are, HasLine, line_where_same, line_where_order, lines_unshifted}
pub use Rattle.log_laws.proofs.Txns.{AreLearnt, numbers_of, split}
pub use Rattle.log_laws.specs.Logs.{IsSoundLog, IsLearntLog, HasOrder}
pub use Rattle.round_laws.specs.Fences.{IsReadBy, AreFenced, IsFirst, IsLast, FencesMakeRounds, ClosingLeaves}
pub use Rattle.round_laws.specs.Rounds.{run_of_two, values, IsReadLast, Keeper, Leads, itself, by_session, by_read, is_fence, bare, bare_node, is_value, map_behind, bare_txn, bare_txns, txns_at, has_number, joined, IsClosed, IsLeft, IsSeam}
pub use Rattle.round_laws.specs.Rounds.{IsInTime, BothOfRun, RunOfBoth, OrdersOfRounds, OrderOfRun, IsOpened}
pub use Rattle.round_laws.specs.Runs.{Round, IsRound, IsHeld, first_leaves, Fits, run_of, newest_leaves, others_leave, AreRounds, EachOfRun, RunOfEach, AreInTime, RunAsEach}
pub use Rattle.round_laws.specs.Unknown.{AllTaken, BeginsWithWrites, IsSettled, ResolvedRun, EachOfUnknown, RunOfUnknown, UnknownAsEach}
pub use Rattle.serializability.proofs.Places.{Has, Apart, Apart-from_IsDistinct, Has-from_Contains, each_from_append, each_from_map, each_from_filter}
pub use Rattle.session_log.specs.Moments.{is_earlier}
pub use Rattle.session_log.specs.Text.{is_write, ClientSession, Transaction, key_of, is_commit}
pub use Rattle.session_log.specs.declared.session.Op.{Op}
pub use Rattle.session_log.specs.declared.session.Op.TheVariants.{Read, Write}
pub use Rattle.session_log.specs.declared.session.Outcome.TheVariants.{Commit, Unknown, Abort}
pub use Rattle.std.proofs.Common.{◌≡◌, ◌⊎◌, ℕ, zero, suc, ◌<◌, ◌≤◌, List, [], ◌∷◌, Some, refl, sym, ap, ◌∙◌, subst, inl, inr, arith, ◌≢◌, Bool, true, eqb, eq-eqb, not, ◌&&◌, None, nat_eq, false, eqb-true, ◌++◌, map, ◌+◌, cond, length, ne_eqb}
pub use Rattle.std.proofs.Common.{append-nil, ◌*◌, ◌-◌, ◌||◌}
pub use Rattle.std.proofs.lemmas.Bool.{false≢true, and_parts, cases_Bool, cases_eq, cases_order, and_from, or_cases, or_left}
pub use Rattle.std.proofs.lemmas.List.{map-append}
pub use Rattle.std.proofs.lemmas.List.Concat.{flat_map-append}
pub use Rattle.std.proofs.lemmas.List.Elements.{Contains-append_left, Contains-append_right, Contains-append_cases}
pub use Rattle.std.proofs.lemmas.Slice.Eq.{bytes_eq-Decides}
pub use Rattle.std.specs.List.{Contains, AllByRecursion, IsDistinct, filter, flat_map, list_any}
pub use Rattle.std.specs.Prelude.{slice_get, nat_le, ◌↔◌}
pub use Rattle.std.specs.Str.{bytes_eq}
