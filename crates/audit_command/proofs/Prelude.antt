-- What the proofs of this crate name of other modules.
pub use Rattle.audit_command.specs.Audited.{IsPartTold, verdict_word, refuted_of, IsRefutedWhere, IsWeakest, asked_at, unless_shown, IsLowest, IsOrderText, seen, is_serial, asks_levels, asks_strict, asks_plain, at_snapshot, states_moments}
pub use Rattle.audit_command.specs.Audited.{IsWordWhere, IsAnswer, IsWeaker, IsLower, AreTotals, IsOrderFile, order_asked, AreToldParts, at_level, nodes_in, one_states, IsShownBy, unless_told, IsShown, some_state}
pub use Rattle.audit_command.specs.Distinct.{AreDistinct, IsOther, IsNoLarger, AreLeastFirst, holds_txns, holds_one}
pub use Rattle.audit_command.specs.Places.{told_from, chosen_by, told_in, told_by}
pub use Rattle.audit_command.specs.Printed.{AreLines, IsLine}
pub use Rattle.audit_command.specs.Resolved.{IsPartOf, IsPartOfVerdict, IsResolved}
pub use Rattle.audit_command.specs.declared.options.AuditOptions.{AuditOptions}
pub use Rattle.audit_report.specs.declared.told.Answer.{Answer}
pub use Rattle.audit_report.specs.declared.told.ToldPart.{ToldPart}
pub use Rattle.audit_report.specs.declared.told.Word.{Word}
pub use Rattle.judging.proofs.Levels.{room_resolved, judged_resolved}
pub use Rattle.judging.proofs.Resolved.{serial_resolved, known}
pub use Rattle.judging.specs.Judges.{IsVerdict}
pub use Rattle.judging.specs.Levels.{is_split, IsOrderAt, HasRoomAt, HasOrderAt, IsLogAt}
pub use Rattle.judging.specs.Made.{IsMade, IsToldPart, IsMadeOf}
pub use Rattle.judging.specs.declared.judged.RefutedPart.{RefutedPart}
pub use Rattle.judging.specs.declared.judged.Verdict.{Verdict}
pub use Rattle.judging.specs.declared.judged.Verdict.TheVariants.{Serializable, NotSerializable, Undecided}
pub use Rattle.judging.specs.declared.level.Level.{Level}
pub use Rattle.judging.specs.declared.means.JudgeMeans.{JudgeMeans}
pub use Rattle.point_laws.proofs.Without.{legal_without, sound_without, log_without, resolved_without}
pub use Rattle.point_laws.specs.Snapshot.{IsSnapshotOrder, HasSnapshotOrder}
pub use Rattle.point_laws.specs.Without.{without_moments}
pub use Rattle.log_definitions.specs.Unknown.{resolved, txns_in, is_committed}
pub use Rattle.log_laws.proofs.Resolved.{resolved_is_log, nodes_stay}
pub use Rattle.log_laws.specs.Logs.{IsLog, IsSoundLog, HasOrder}
pub use Rattle.session_log.proofs.Adding.{all_more}
pub use Rattle.session_log.specs.Text.{ClientSession, IsLegal, view, view_txn, txn_lines}
pub use Rattle.session_log.specs.Version.{first_line, version_of}
pub use Rattle.splitting.specs.Locks.{no_room}
unfoldable pub use Rattle.splitting.specs.Locks.{locks_of}
pub use Rattle.std.proofs.Common.{◌≡◌, ◌<◌, length, length-append, arith, true, false, List, [], ◌∷◌, ◌++◌, remove, refl, ap, subst, ℕ, Option, None, Some, sym, ◌∙◌, Bool, map, append_assoc, append-nil, ◌≤◌, ◌+◌, drop, String, string_bytes}
pub use Rattle.std.proofs.Common.{inr, rules, inl, take, count_by}
pub use Rattle.std.proofs.lemmas.Bool.{or_parts, cases_Bool}
pub use Rattle.std.proofs.lemmas.List.Sorted.{All-permutation, IsNonDecreasingBy-from_sort_by_key}
pub use Rattle.std.proofs.lemmas.Result.{IfOk-weaker, on_ok_weaker}
pub use Rattle.std.specs.List.{AllByRecursion, flat_map}
pub use Rattle.std.specs.Prelude.{IfSome, ◌&&◌, ◌||◌}
