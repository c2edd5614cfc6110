-- What the proofs of this crate name of other modules.
pub use Rattle.audit_report.specs.Objects.{escaped, lines_value, line_byte, behind_comma, part_object, txn_object}
unfoldable pub use Rattle.audit_report.specs.Objects.{count_values, explanation_value, lower_values, verdict_value}
pub use Rattle.audit_report.specs.Orders.{name_at, names_text}
pub use Rattle.audit_report.specs.Report.{listed, lines_of, counts_text, lowest_part, parts_text}
unfoldable pub use Rattle.audit_report.specs.Report.{too_few}
pub use Rattle.audit_report.specs.Words.{verdict_text, word_text}
pub use Rattle.list_lemmas.proofs.Lists.{appended_twice}
pub use Rattle.session_log.specs.Text.{ClientSession, view}
pub use Rattle.std.proofs.Common.{◌≡◌, ℕ, zero, suc, List, [], ◌∷◌, refl, ap, ◌∙◌, ◌++◌, drop, map, codes}
pub use Rattle.std.proofs.lemmas.Result.{IfOk-weaker, on_ok_weaker}
pub use Rattle.std.specs.List.{flat_map}
pub use Rattle.std.specs.Prelude.{unwrap_or, slice_get}
