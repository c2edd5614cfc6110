-- What the proofs of this crate name of other modules.
pub use Rattle.log_lines.specs.Rows.{TxnRow, Table, Fits, view_place, no_row, rows_of}
pub use Rattle.log_lines.specs.declared.placed.PlacedHistory.{PlacedHistory}
pub use Rattle.session_log.specs.Text.{ClientSession, Transaction, view, view_txn}
pub use Rattle.session_log.specs.declared.session.Op.{Op}
pub use Rattle.session_log.specs.declared.session.Op.TheVariants.{Read, Write}
pub use Rattle.std.proofs.Common.{◌≡◌, ℕ, zero, suc, ◌+◌, ◌<◌, Bool, true, false, List, [], ◌∷◌, ◌++◌, length, map, take, get_or, slice_get, Option, None, Some, MatchOption, refl, sym, ap, ◌∙◌, subst, arith, inl, inr, Bor, ltb-true, ltb-false}
pub use Rattle.std.proofs.Common.{◌≤◌, lt-ltb, ◌-◌, drop}
pub use Rattle.std.proofs.lemmas.Bool.{cases_Bool, cond-true}
pub use Rattle.std.proofs.lemmas.List.{take_all, append-nil}
pub use Rattle.std.proofs.lemmas.List.Quantifiers.{position-Some}
pub use Rattle.std.proofs.lemmas.Option.{slice_get-get_or, slice_get_past, slice_get_read, unwrap_or-slice_get}
pub use Rattle.std.specs.List.{flat_map, zip, AllByRecursion}
pub use Rattle.std.specs.Option.{option_map, option_or, option_copied, option_map_or}
pub use Rattle.std.specs.Prelude.{position, is_some, nat_lt, IfSome, unwrap_or, slice_index_or}
pub use Rattle.tell_reasons.specs.Words.{word_text, words_text}
pub use Rattle.tell_reasons.specs.Writes.{OpOf, first_given, first_of, first_in, first_op, IsFirst, is_write_as}
