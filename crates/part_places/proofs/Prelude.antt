-- What the proofs of this crate name of other modules.
pub use Rattle.list_lemmas.proofs.Elements.{get_drop, item, get_map}
pub use Rattle.log_definitions.specs.WellFormed.{log_lines}
pub use Rattle.log_lines.specs.Rows.{TxnRow, Table, Fits, op_counts, line_at, view_place}
pub use Rattle.log_parts.specs.Picked.{flag_of, flags_view, with_txns, picked}
pub use Rattle.part_laws.specs.Chosen.{flagged, thin, thin_txn, stays}
pub use Rattle.part_places.specs.PartRows.{part_row, flagged_rows, with_rows, part_table, first_txns, AddsRow, AddsRows, reads_next, is_kept, staying, IsInText}
pub use Rattle.session_log.specs.Text.{ClientSession, Transaction, view, view_txn, txn_lines, session_lines, log_text, op_line, end_line, IsLegal}
pub use Rattle.session_log.specs.Version.{first_line, version_of}
pub use Rattle.session_log.specs.declared.session.Op.{Op}
pub use Rattle.session_log.specs.declared.session.Session.{Session}
pub use Rattle.std.proofs.Common.{◌≡◌, ℕ, zero, suc, ◌+◌, ◌≤◌, Bool, true, false, cond, List, [], ◌∷◌, ◌++◌, length, drop, map, refl, sym, ap, ◌∙◌, Some, inl, inr, arith, append_assoc, length-append, Vec, eqb, eqb-true, eq-eqb, get_or, subst}
pub use Rattle.std.proofs.lemmas.Bool.{cases_Bool, false≢true}
pub use Rattle.std.proofs.lemmas.List.{append-nil, drop_all, length-map, map-append}
pub use Rattle.std.specs.List.{filter, flat_map, AllByRecursion}
pub use Rattle.std.specs.Prelude.{slice_get, slice_index_or}
