-- What the proofs of this crate name of other modules.
pub use Rattle.branch_search.specs.declared.answer.Answer.TheVariants.{Unknown}
pub use Rattle.deciding.specs.Decides.{HasNoOrder, IsSearched, Decides}
pub use Rattle.judging.specs.Finds.{IsFound, of_serial, is_spent, IsLimitOrMemory, IsSaid, IsTriedOf, IsAttempt}
pub use Rattle.judging.specs.Judges.{Finds, FindsAt, FindsIn, IsOwnOf, IsRefutedLog, IsUndecidedBy, IsLeftOpen, IsVerdict, IsInVain, IsTried}
pub use Rattle.judging.specs.Levels.{is_split, judged_at, HasNoOrderAt, HasRoomAt, IsOrderAt, IsJudgedAt, IsLogAt, IsNumbered, HasOrderAt}
pub use Rattle.judging.specs.Limits.{IsOver}
pub use Rattle.judging.specs.Made.{IsMadeOf, IsMade, IsToldPart}
pub use Rattle.judging.specs.declared.found.Found.{Found}
pub use Rattle.judging.specs.declared.judged.Finding.TheVariants.{Anomaly, Overlooked}
pub use Rattle.judging.specs.declared.judged.Tried.{Tried}
pub use Rattle.judging.specs.declared.judged.Why.{Why}
pub use Rattle.judging.specs.declared.judged.Why.TheVariants.{Spent, TooLarge, TooManyChoices, NoRoom, NotBegun, NotShown}
pub use Rattle.judging.specs.declared.level.Level.{Level}
pub use Rattle.judging.specs.declared.level.Level.TheVariants.{Serializable, Snapshot, Prefix, Below}
pub use Rattle.judging.specs.declared.means.JudgeMeans.{JudgeMeans}
pub use Rattle.known_outcomes.proofs.Changed.{none_changed, one_changed, all_changed, changed}
pub use Rattle.point_laws.specs.Without.{without, session_without}
pub use Rattle.log_definitions.proofs.OnlyTaken.{some_where_serial, serial_where_distinct, orders_from_serial, serial_from_orders}
pub use Rattle.log_definitions.proofs.Scanning.{neither, rules_where_no_fault}
pub use Rattle.log_definitions.proofs.Settled.{ops_resolved, IsLearnt, learnt_resolved, numbers_resolved}
pub use Rattle.log_definitions.specs.Numbers.{events_of, aborted_in}
unfoldable pub use Rattle.log_definitions.specs.Numbers.{log_of}
pub use Rattle.log_definitions.specs.Serial.{IsSerialOrder, Committed, committed_in, node_in, IsSomeOrder}
unfoldable pub use Rattle.log_definitions.specs.Serial.{node_of}
pub use Rattle.log_definitions.specs.Unknown.{resolved, ops_in, txns_in, is_committed, is_unknown, settled_as, settle, taken}
unfoldable pub use Rattle.log_definitions.specs.Unknown.{settled}
pub use Rattle.log_definitions.specs.WellFormed.{first_seen, written, log_lines, session_twice, write_twice, session_fault, write_fault, limit_fault, is_aborted, IsWellFormed}
unfoldable pub use Rattle.log_definitions.specs.WellFormed.{keys_in, list_fault}
pub use Rattle.log_laws.proofs.Resolved.{nodes_stay, resolved_is_log, learnt_once_resolved}
pub use Rattle.log_laws.specs.Logs.{IsSoundLog, IsLog, HasOrder}
pub use Rattle.log_parts.specs.Picked.{picked, is_kept, chosen, flags_view}
pub use Rattle.order_cnf.proofs.Counted.{one}
pub use Rattle.part_laws.specs.Parts.{IsPart, IsTxnPart, IsSessionPart}
pub use Rattle.reduction.specs.Outcome.{IsReduceFault, IsOpenHistory}
pub use Rattle.serializability.proofs.Listed.{IsDistinct-from_Apart}
pub use Rattle.serializability.proofs.Places.{Apart-from_IsDistinct}
pub use Rattle.serializability.specs.Log.{Log}
pub use Rattle.session_log.proofs.Whole.{log_by_lines, lines_log, stands}
pub use Rattle.session_log.specs.Faults.{IsFault, is_session_line}
pub use Rattle.session_log.specs.Text.{ClientSession, IsLegal, key_of, Transaction, IsLegalTxn, MayEndAt, op_line, end_line, txn_lines, session_lines, full_line, text_of_lines, log_text, has_moment, has_unknown, least_version, IsHeldBy, view}
pub use Rattle.session_log.specs.Text.{view_txn}
unfoldable pub use Rattle.session_log.specs.Text.{line_text}
pub use Rattle.session_log.specs.Version.{header_text, version_of, body_of, version_number, first_line}
pub use Rattle.session_log.specs.declared.fault.Limit.{Limit}
pub use Rattle.session_log.specs.declared.fault.LogFault.TheVariants.{OverLimit}
pub use Rattle.session_log.specs.declared.session.Op.{Op}
pub use Rattle.session_log.specs.declared.session.Session.{Session}
pub use Rattle.session_log.specs.declared.version.Version.{Version}
pub use Rattle.session_log.specs.declared.version.Version.TheVariants.{One, Two, Three}
pub use Rattle.std.proofs.Common.{◌≡◌, ◌⊎◌, inl, inr, ℕ, List, [], map, Some, refl, sym, ap, ◌∙◌, subst, true, ◌<◌, Bool, false, not, cond, ◌∷◌, length, count_by, nat_lt, Option, None, arith, ◌+◌, ◌≤◌, ◌||◌, ◌++◌, length-append, Vec, drop}
pub use Rattle.std.proofs.Common.{take, get_or}
pub use Rattle.std.proofs.lemmas.Bool.{ltb-true, ltb-false}
pub use Rattle.std.proofs.lemmas.List.{length-map, map-append, drop_all, append_assoc}
pub use Rattle.std.proofs.lemmas.List.Sums.{sum_by-cons, sum_by-append}
pub use Rattle.std.specs.List.{AllByRecursion, filter, flat_map, list_any}
pub use Rattle.std.specs.Option.{option_or, option_map_or}
pub use Rattle.std.specs.Prelude.{option_and_then, is_some, Result, Ok, Err, IfOk, IfSome}
pub use Rattle.std.specs.declared.alloc.Global.{Global}
