-- What the proofs of this crate name of other modules.
pub use Rattle.log_definitions.specs.Numbers.{IsWellFormedList, events_of, number_in, aborted_in, event_of}
unfoldable pub use Rattle.log_definitions.specs.Numbers.{log_of}
pub use Rattle.log_definitions.specs.Serial.{Committed, committed_of, node_in, initial, Map, set, Replays, ops_of, IsSerialOrder, IsSomeOrder, begun_of, ended_of, session_of}
unfoldable pub use Rattle.log_definitions.specs.Serial.{committed_in, node_of}
pub use Rattle.log_definitions.specs.Unknown.{is_committed, txns_in, ops_in, settled_as, committed_ops, IsNeeded, IsClosed, settle, IsWithin, reads_write, reads_of, is_needed, taking, taking_times}
unfoldable pub use Rattle.log_definitions.specs.Unknown.{settled, taken, resolved}
pub use Rattle.log_definitions.specs.WellFormed.{written, is_aborted, first_seen, sessions_from, writes_from, IsLogWithin, IsFaultWithin, memory, size, grammar, list, log_lines, repeated, session_twice, write_twice, session_fault}
pub use Rattle.log_definitions.specs.WellFormed.{write_fault, limit_fault, KeepsRules}
unfoldable pub use Rattle.log_definitions.specs.WellFormed.{keys_in, list_fault}
pub use Rattle.serializability.proofs.Places.{Has, Apart, each_of_flat_map, each_from_flat_map, each_from_append, each_of_filter, Has-append_front, Has-append_back, Apart-not_both, each_of_map, length_mapped, Apart-from_IsDistinct}
pub use Rattle.serializability.proofs.Places.{each_from_filter, Has-from_Contains, Contains-from_Has, place_of-here, place_of-further, each_of_append, each_from_map, Has-append_cases}
pub use Rattle.serializability.specs.Replay.{Store, write, empty, Meets, IsSerial, place_of, Before, ListsOnce}
pub use Rattle.serializability.specs.declared.event.Event.{Event}
pub use Rattle.session_log.proofs.Whole.{log_by_lines, grammar_fault_none, log_text_injective}
pub use Rattle.session_log.specs.Blocks.{text_of}
unfoldable pub use Rattle.session_log.specs.Blocks.{size_fault}
pub use Rattle.session_log.specs.Faults.{Place, Start, Between, Inside, Over, after, after_form, form_at, is_session_line, first_fault, going_on}
unfoldable pub use Rattle.session_log.specs.Faults.{step, grammar_fault}
pub use Rattle.session_log.specs.Lines.{lines}
pub use Rattle.session_log.specs.Moments.{is_earlier, IsMoment}
pub use Rattle.session_log.specs.Text.{ClientSession, Transaction, line_text, op_line, end_line, txn_lines, session_lines, text_of_lines, log_text, is_unknown, IsKnown, IsKnownBeforeLast, IsLegal, IsLegalMoment, IsLegalTxn, IsLegalOp}
pub use Rattle.session_log.specs.Text.{MayEndAt, HasNoMoments, IsHeldBy, is_commit, key_of}
pub use Rattle.session_log.specs.Version.{header_text, first_line, has_unknown_line, has_moments, version_of, body_of}
pub use Rattle.session_log.specs.declared.fault.LogFault.{LogFault}
pub use Rattle.session_log.specs.declared.fault.LogFault.TheVariants.{OpenTransaction, EndsBeforeBegin, Memory}
pub use Rattle.session_log.specs.declared.line.Line.{Line}
pub use Rattle.session_log.specs.declared.session.Op.{Op}
pub use Rattle.session_log.specs.declared.session.Op.TheVariants.{Read, Write}
pub use Rattle.session_log.specs.declared.session.Outcome.{Outcome}
pub use Rattle.session_log.specs.declared.session.Outcome.TheVariants.{Commit, Abort, Unknown}
pub use Rattle.session_log.specs.declared.version.Version.{Version}
pub use Rattle.std.proofs.Common.{◌≡◌, ℕ, zero, suc, ◌+◌, ◌<◌, ◌^◌, Bool, true, false, cond, List, [], ◌∷◌, ◌++◌, Option, Some, None, Result, Ok, Err, refl, sym, ap, ◌∙◌, subst, arith, append_assoc, ◌≤◌, not, length, inl, inr, ◌⊎◌}
pub use Rattle.std.proofs.Common.{length-append, get_or, eqb, eq-eqb, ne_eqb, nat_eq, ◌≢◌, nat_lt, ◌&&◌, eqb-true, unwrap_or}
pub use Rattle.std.proofs.lemmas.Bool.{cases_Bool, cond_both, false≢true, or_left, or_right, and_parts, and_from, not-true, not_from_false, eqb-false, cases_eq, cases_order, ltb-false, cond-false, or_parts, or_from, le-ltb, or_cases}
pub use Rattle.std.proofs.lemmas.List.{map-append}
pub use Rattle.std.proofs.lemmas.List.Concat.{flat_map-append}
pub use Rattle.std.proofs.lemmas.List.Elements.{filter-append, recursion_from_All, All-contains_itself}
pub use Rattle.std.proofs.lemmas.List.Folds.{flat_map-map, list_any-append, list_any-from_Any, Any-from_list_any}
pub use Rattle.std.proofs.lemmas.List.Sums.{length-filter, count_by-le-length}
pub use Rattle.std.proofs.lemmas.Option.{slice_get-map, slice_get-get_or, unwrap_or-slice_get}
pub use Rattle.std.proofs.lemmas.Slice.Eq.{bytes_eq-Decides}
pub use Rattle.std.specs.List.{flat_map, AllByRecursion, filter, Contains, list_any, enumerate_from, All}
unfoldable pub use Rattle.std.specs.List.{IsDistinct}
pub use Rattle.std.specs.Option.{option_map, option_map_or, option_or}
pub use Rattle.std.specs.Prelude.{map, count_by, slice_get, option_and_then}
pub use Rattle.std.specs.Str.{bytes_eq}
