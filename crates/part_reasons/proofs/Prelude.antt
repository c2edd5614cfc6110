-- What the proofs of this crate name of other modules.
pub use Rattle.deciding.specs.Decides.{Decides}
pub use Rattle.log_definitions.specs.Unknown.{txns_in}
pub use Rattle.log_definitions.specs.WellFormed.{list_fault}
pub use Rattle.log_lines.specs.Rows.{rows_of, op_counts, op_counts_in}
pub use Rattle.part_graphs.specs.Graphs.{search_graph, evidence_graph, refutation_graph}
pub use Rattle.part_reasons.specs.Apart.{is_order, IsFound, singles, apart, limit}
pub use Rattle.part_reasons.specs.Drawn.{IsTooLong, of_anomaly}
pub use Rattle.part_reasons.specs.Points.{is_allowed, forbidden_in, IsForbiddenName, IsSearchTold, search_text}
pub use Rattle.part_reasons.specs.Why.{IsKnownAs, table_of, Tells, IsTooLarge, of_told, of_searched}
unfoldable pub use Rattle.session_log.specs.Lines.{lines}
pub use Rattle.session_log.specs.Text.{ClientSession, Transaction, IsLegal, IsLegalTxn, view, view_txn}
pub use Rattle.session_log.specs.Version.{first_line}
pub use Rattle.session_log.specs.declared.version.Version.TheVariants.{One}
pub use Rattle.std.proofs.Common.{◌≡◌, ℕ, zero, suc, ◌+◌, ◌<◌, false, List, [], ◌∷◌, ◌++◌, length, drop, codes, refl, ap, ◌∙◌, subst, arith, Option, None, Some, IfSome, String, inr, ◌≢◌, sym, ◌≤◌, ◌^◌, add-zero, map, inl, append_assoc}
pub use Rattle.std.proofs.Common.{length-append, MatchOption, Vec, Bor, Bool}
pub use Rattle.std.proofs.lemmas.List.{append-nil, map-append, length-map, take_rest}
pub use Rattle.std.proofs.lemmas.Result.{IfOk-weaker}
pub use Rattle.std.specs.Bool.{nat_eq}
pub use Rattle.std.specs.List.{starts_with, AllByRecursion, Contains}
pub use Rattle.std.specs.declared.alloc.Global.{Global}
