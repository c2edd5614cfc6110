-- What the proofs of this crate name of other modules.
pub use Rattle.list_lemmas.proofs.Comparisons.{eq_then, bytes_flip}
pub use Rattle.list_lemmas.proofs.Lists.{front_more}
pub use Rattle.log_definitions.proofs.FewNodes.{few_nodes}
pub use Rattle.log_definitions.proofs.Lines.{writes_from-append, sessions_from-append}
pub use Rattle.log_definitions.proofs.Members.{member, each_weaker, each_member, themselves, any_member}
pub use Rattle.log_definitions.proofs.Nodes.{log_keys, log_nodes}
pub use Rattle.log_definitions.proofs.Scanning.{rules_where_no_fault, written-append, no_fault_where_rules}
pub use Rattle.log_definitions.proofs.Settled.{txn_ops, ops_settled}
pub use Rattle.log_definitions.proofs.Taken.{Counts, each_from_committed, taken_least, EachCounted, each_of_committed, needed_taken}
pub use Rattle.log_definitions.specs.Numbers.{events_of, number_in, event_of, aborted_in}
unfoldable pub use Rattle.log_definitions.specs.Numbers.{log_of}
pub use Rattle.log_definitions.specs.Serial.{Committed, node_in, begun_of, ended_of, committed_of}
unfoldable pub use Rattle.log_definitions.specs.Serial.{committed_in, node_of}
pub use Rattle.log_definitions.specs.Unknown.{is_unknown, txns_in, ops_in, settled_as, committed_ops, taken, IsNeeded, IsClosed, is_committed, settle}
unfoldable pub use Rattle.log_definitions.specs.Unknown.{settled, resolved}
pub use Rattle.log_definitions.specs.WellFormed.{written, log_lines, session_twice, write_twice, session_fault, write_fault, limit_fault, is_aborted, first_seen, writes_from, repeated, sessions_from}
unfoldable pub use Rattle.log_definitions.specs.WellFormed.{keys_in, list_fault}
pub use Rattle.serializability.proofs.Places.{Apart-from_IsDistinct, each_of_flat_map, each_of_map, each_from_flat_map, each_from_append, Has, Apart, Has-append_front, Has-append_back, Has-append_cases, Apart-not_both, Apart-append}
pub use Rattle.serializability.proofs.Places.{each_from_map, length_mapped}
pub use Rattle.serializability.proofs.Replays.{last_write-append, later-None}
pub use Rattle.serializability.specs.Anomalies.{is_write_of, writes_as}
pub use Rattle.serializability.specs.Events.{event_key}
pub use Rattle.serializability.specs.Log.{Log}
pub use Rattle.serializability.specs.Polygraph.{all_keys, source, writer_of, committed, wrote}
pub use Rattle.serializability.specs.Reads.{last_write, external_read, later}
pub use Rattle.serializability.specs.declared.event.Event.{Event}
pub use Rattle.session_history.specs.Counted.{IsTally, CountsAll}
pub use Rattle.session_history.specs.Held.{FindsWrites, numbered_node, node_kept, sessions_of, row_in, IsHistory, readers_in}
pub use Rattle.session_history.specs.Naming.{name_cmp, node_among}
pub use Rattle.session_history.specs.Numbering.{number_among, KeepsPlaces, FindsEach}
pub use Rattle.session_history.specs.Rows.{row_view, RowView, reader_view, writer_if, reader_if, row_after, row_from, no_row, IsBelow, AreRows}
pub use Rattle.session_history.specs.Sources.{reads_view, AreReads, found_by, readers_of, final_node}
pub use Rattle.session_history.specs.Tables.{sources_of, pair_at, pairs, node_named}
pub use Rattle.session_history.specs.Taken.{NumberedNode, node_view, Placed, placed_from, placed_in, nodes_among, numbered_from, keys_among, HoldsAll, Takes, IsStart}
pub use Rattle.session_history.specs.Tracked.{write_view, FindsLast, found_in, IsTaking, order_of}
pub use Rattle.session_history.specs.Worklist.{ops_ended, WriteView, WriteAt, unknown_writes, last_with, has, IsOnce, same_outcome, has_ended, writes_of, unknown_writes_of, with_read, with_reads, with_session, with_found, committed_in_all}
pub use Rattle.session_history.specs.Writes.{IsUnwritten, IsNodesWrite, IsWrite}
pub use Rattle.session_history.specs.Written.{is_write, entry_of, is_last_write, ends_with, HasWrites, HasSeen, writes_at}
pub use Rattle.session_history.specs.declared.nodes.Node.{Node}
pub use Rattle.session_history.specs.declared.nodes.Transactions.{Transactions}
pub use Rattle.session_history.specs.declared.reads.ReadFrom.{ReadFrom}
pub use Rattle.session_history.specs.declared.rows.KeyRow.{KeyRow}
pub use Rattle.session_history.specs.declared.rows.Reader.{Reader}
pub use Rattle.session_history.specs.declared.writes.Writes.{Writes}
pub use Rattle.session_history.specs.declared.writes.Written.{Written}
pub use Rattle.session_log.specs.Text.{ClientSession, Transaction, is_commit, capped, key_of, view, view_txn, op_line, end_line, txn_lines, session_lines}
pub use Rattle.session_log.specs.Version.{first_line}
pub use Rattle.session_log.specs.declared.session.Op.{Op}
pub use Rattle.session_log.specs.declared.session.Op.TheVariants.{Read, Write}
pub use Rattle.session_log.specs.declared.session.Outcome.{Outcome}
pub use Rattle.session_log.specs.declared.session.Outcome.TheVariants.{Commit, Abort, Unknown}
pub use Rattle.session_log.specs.declared.session.Session.{Session}
pub use Rattle.session_log.specs.declared.session.Txn.{Txn}
pub use Rattle.std.proofs.Common.{◌≡◌, ℕ, zero, suc, Bool, true, false, cond, eqb, List, [], ◌∷◌, length, map, count_by, Option, Some, refl, sym, ap, subst, ◌∙◌, ◌+◌, ◌≤◌, arith, nat_eq, ◌++◌, take, get_or, None, append_assoc, nat_cmp, ◌<◌}
pub use Rattle.std.proofs.Common.{◌&&◌, inl, inr, ◌-◌, ◌⊎◌, slice_get, is_some, nat_lt, Bor, IfSome, length-append, set, All, not, drop, ◌||◌, Vec, Global, ltb, add-one, unwrap_or, slice_index, map-id, rules, ◌^◌, ◌==◌, vec_len}
pub use Rattle.std.proofs.lemmas.Bool.{eqb-true, eq-eqb, false≢true, or_left, or_right, or_parts, cases_eq, cases_lt, or_cases, and_from, ltb-true, ltb-false, eqb-false, ne_eqb, lt-ltb, le-ltb, cond-true, cond-false, cases_Bool, both_ways}
pub use Rattle.std.proofs.lemmas.Bool.{not-true, not-false}
pub use Rattle.std.proofs.lemmas.Grind.{flat_map-append}
pub use Rattle.std.proofs.lemmas.List.{take_all, append-nil, map-append, length-map, length-take, length-set, take_more, drop_more, get_or-map, take-append-drop, take-append-le}
pub use Rattle.std.proofs.lemmas.List.Elements.{All-append, All-nil, All-cons, All-from_recursion}
pub use Rattle.std.proofs.lemmas.List.Folds.{Any-from_list_any, list_any-append}
pub use Rattle.std.proofs.lemmas.List.Sorted.{searchable_from_sorted, answers_always}
pub use Rattle.std.proofs.lemmas.List.Sums.{sum_by-cons, sum_by-append, count_by-le-length}
pub use Rattle.std.proofs.lemmas.Option.{same_Some, slice_get_past, slice_get_read, slice_get-map, slice_get_within, slice_get-get_or, get_or_from_slice_get}
pub use Rattle.std.proofs.lemmas.Slice.Eq.{bytes_eq-Decides}
pub use Rattle.std.specs.BTreeMap.{get, is_at, BTreeMap}
pub use Rattle.std.specs.BTreeSet.{contains}
pub use Rattle.std.specs.Cmp.{unsigned_ties, nat_cmp_total}
pub use Rattle.std.specs.Cmp.Lexicographic.{slice_cmp, texts_ties}
pub use Rattle.std.specs.List.{AllByRecursion, Contains, list_any, filter_map, cons_option, flat_map, filter, enumerate_from, HoldsAt, find, range_with_len}
unfoldable pub use Rattle.std.specs.List.{IsDistinct}
pub use Rattle.std.specs.Option.{option_or, option_map, option_map_or}
pub use Rattle.std.specs.Ordering.{is_eq, is_lt, ordering_index}
pub use Rattle.std.specs.Prelude.{MatchOption, option_and_then}
pub use Rattle.std.specs.Str.{bytes_eq}
