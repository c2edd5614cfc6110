-- What the proofs of this crate name of other modules.
pub use Rattle.census.specs.Counts.{count_in, is_lost_with, loses_as, place_in, with_line}
pub use Rattle.census.specs.Reads.{last_write, is_other_read, writes_as, passes_over, committed_in, fault_at, faults_behind, with_key, is_aborted, is_intermediate, read_fault, external_fault, reads_with, faults_of_txns}
unfoldable pub use Rattle.census.specs.Reads.{faults_in}
pub use Rattle.census.specs.States.{after, after_read, differs, differs_from, state_behind, state_in, untouched, state_of, entry_cmp}
pub use Rattle.census.specs.Tables.{at_read, at_write, reads_as, is_passed, updates_by, AreBehind, view_fault, view_ref, KnowsUpdates, loses_among, KnowsWrites, op_fault, fault_among, external_among, KnowsLog, updates_in}
pub use Rattle.census.specs.Updates.{first_read, updates, loses_by, is_lost}
unfoldable pub use Rattle.census.specs.Updates.{lost_in}
pub use Rattle.census.specs.Versions.{version_cmp, is_in}
unfoldable pub use Rattle.census.specs.Versions.{has_version}
pub use Rattle.census.specs.Worst.{loses_at, AreWorst, IsWorse}
unfoldable pub use Rattle.census.specs.Worst.{faults_of}
pub use Rattle.census.specs.declared.numbers.KeyFaults.{KeyFaults}
pub use Rattle.census.specs.declared.states.KeyState.{KeyState}
pub use Rattle.census.specs.declared.states.States.{States}
pub use Rattle.census.specs.declared.updates.Updates.{Updates}
pub use Rattle.census.specs.declared.writes.Writes.{Writes}
pub use Rattle.list_lemmas.proofs.Bools.{and_first}
pub use Rattle.list_lemmas.proofs.Comparisons.{eqb_flip, bytes_flip, eq_then, lt_true}
pub use Rattle.list_lemmas.proofs.Elements.{get_drop, item, behind, get_put, looked_up}
pub use Rattle.list_lemmas.proofs.Lists.{front_more, append_none, mapped_front}
pub use Rattle.log_definitions.specs.Unknown.{is_committed, reads_write, txns_in, ops_in}
pub use Rattle.serializability.specs.declared.anomaly.ReadAnomaly.{ReadAnomaly}
pub use Rattle.session_log.specs.Text.{key_of, Transaction, ClientSession, view_txn, view}
pub use Rattle.session_log.specs.declared.session.Op.{Op}
pub use Rattle.session_log.specs.declared.session.Op.TheVariants.{Read, Write}
pub use Rattle.session_log.specs.declared.session.Txn.{Txn}
pub use Rattle.std.proofs.Common.{◌≡◌, ℕ, ◌+◌, ◌<◌, Bool, true, false, cond, ◌&&◌, ◌||◌, eqb, List, [], ◌∷◌, ◌++◌, length, take, get_or, Option, None, Some, refl, sym, ap, ◌∙◌, inl, inr, arith, map, subst, unwrap_or, nat_cmp, eq-eqb}
pub use Rattle.std.proofs.Common.{append-nil, ◌⊎◌, append_assoc, ◌≤◌, zero, suc}
pub use Rattle.std.proofs.lemmas.Bool.{cases_Bool, eqb-true, false≢true, and_parts, or_left, or_right, cases_order}
pub use Rattle.std.proofs.lemmas.List.{take-append-drop, length-set, take_all, map-append, drop_all}
pub use Rattle.std.proofs.lemmas.List.Concat.{flat_map-append}
pub use Rattle.std.proofs.lemmas.List.Elements.{filter-append, All-from_recursion, recursion_from_All}
pub use Rattle.std.proofs.lemmas.List.Folds.{list_any-append}
pub use Rattle.std.proofs.lemmas.List.Sums.{sum_by-cons, length-filter, sum_by_push}
pub use Rattle.std.proofs.lemmas.Map.Iter.{rest_all, rest_more}
pub use Rattle.std.proofs.lemmas.Map.Keys.{sorted_head, sorted_tail}
pub use Rattle.std.proofs.lemmas.Map.Text.{is_eq-slice_cmp}
pub use Rattle.std.proofs.lemmas.Slice.Eq.{bytes_eq-Decides}
pub use Rattle.std.specs.BTreeMap.{BTreeMap, IsUnchanged, UpdatesBy, get_by, is_at}
pub use Rattle.std.specs.BTreeSet.{BTreeSet, contains_by}
pub use Rattle.std.specs.Cmp.Lexicographic.{slice_cmp, nat_list_cmp_total}
pub use Rattle.std.specs.List.{list_any, AllByRecursion, filter, flat_map, All, Contains, AllPairs, position_or_len}
pub use Rattle.std.specs.List.Sorted.{IsStrictlySortedBy}
pub use Rattle.std.specs.Map.{keys_of, lookup}
pub use Rattle.std.specs.Map.Iter.{deref_pair}
pub use Rattle.std.specs.Option.{option_map_or, ForSome}
pub use Rattle.std.specs.Ordering.{is_eq, ordering_then}
pub use Rattle.std.specs.Prelude.{not, is_some, Result, Ok, Err, OnOk, OnErr, nat_lt, count_by, drop, insert, slice_get, slice_set, ◌==◌}
pub use Rattle.std.specs.Str.{bytes_eq}
pub use Rattle.std.specs.declared.cmp.Ordering.{Ordering}
pub use Rattle.std.specs.declared.cmp.Ordering.TheVariants.{Less}
