-- What the proofs of this crate name of other modules.
pub use Rattle.list_lemmas.proofs.Elements.{some_at}
pub use Rattle.log_definitions.specs.WellFormed.{log_lines, session_twice, write_twice, session_fault, write_fault, repeated, sessions_from, writes_from}
pub use Rattle.long_log_definitions.specs.LongLog.{size_fault, IsLongLog, IsLongLogFault, memory, size, grammar, list}
unfoldable pub use Rattle.long_log_definitions.specs.LongLog.{list_fault}
pub use Rattle.long_reading.specs.Reading.{AreRead, fault_of_blocks}
pub use Rattle.long_reading.specs.Statements.{by_line, AscendFrom, Takes}
pub use Rattle.long_reading.specs.declared.repeats.Stated.{Stated}
pub use Rattle.long_reading.specs.declared.stated.Statements.{Statements}
pub use Rattle.session_log.proofs.FaultsOf.{either_fault, fault_as}
pub use Rattle.session_log.proofs.Steps.{same_fault}
pub use Rattle.session_log.proofs.Together.{fault_by_blocks, joined, block_version}
pub use Rattle.session_log.specs.Blocks.{blocks_of, block_text, block_fault, first_of}
pub use Rattle.session_log.specs.Faults.{grammar_fault, IsFault}
pub use Rattle.session_log.specs.Text.{ClientSession, log_text, view, IsLegal, IsHeldBy, session_text, view_txn, op_line, end_line, txn_lines, session_lines}
pub use Rattle.session_log.specs.Version.{version_of, first_line}
pub use Rattle.session_log.specs.declared.block.Block.{Block}
pub use Rattle.session_log.specs.declared.fault.LogFault.{LogFault}
pub use Rattle.session_log.specs.declared.session.Op.{Op}
pub use Rattle.session_log.specs.declared.session.Session.{Session}
pub use Rattle.session_log.specs.declared.session.Txn.{Txn}
pub use Rattle.std.proofs.Common.{◌≡◌, ℕ, List, Some, None, sym, ap, ◌∙◌, subst, zero, suc, ◌+◌, ◌<◌, [], ◌∷◌, ◌++◌, length, map, take, drop, get_or, Option, refl, arith, ◌≢◌, ◌⊎◌, inl, inr, ◌-◌, ◌≤◌, false, cond, min, nat_eq, nat_cmp}
pub use Rattle.std.proofs.Common.{append_assoc, length-append, MatchResult}
pub use Rattle.std.proofs.lemmas.List.{append-nil, map-append, length-map, take_more, drop_more, take-append-drop, take_all, length_push}
pub use Rattle.std.proofs.lemmas.List.Concat.{flat_map-append, flat_map_single}
pub use Rattle.std.proofs.lemmas.Result.{err_from_is_err_and}
pub use Rattle.std.specs.List.{flat_map, AllByRecursion, Contains}
pub use Rattle.std.specs.Option.{option_or, option_map_or}
pub use Rattle.std.specs.Prelude.{slice_get, count_by}
