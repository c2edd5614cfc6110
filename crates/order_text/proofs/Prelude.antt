-- What the proofs of this crate name of other modules.
pub use Rattle.log_definitions.specs.Numbers.{IsWellFormedList}
unfoldable pub use Rattle.log_definitions.specs.Numbers.{log_of}
pub use Rattle.log_definitions.specs.Serial.{Committed, committed_of}
unfoldable pub use Rattle.log_definitions.specs.Serial.{committed_in, node_of}
pub use Rattle.log_definitions.specs.WellFormed.{log_lines}
pub use Rattle.order_text.specs.Faults.{is_name, named, first_fault, are_numerals, IsOrderFault}
unfoldable pub use Rattle.order_text.specs.Faults.{line_fault, order_fault, words_of, named_by}
pub use Rattle.order_text.specs.Text.{name_line, AreNodes, joined_by}
unfoldable pub use Rattle.order_text.specs.Text.{order_text}
pub use Rattle.order_text.specs.declared.fault.OrderFault.{OrderFault}
pub use Rattle.order_text.specs.declared.fault.OrderFault.TheVariants.{BadLine, NoSuchTransaction, TooLong, Memory}
pub use Rattle.session_history.specs.Tables.{name_in, node_named}
pub use Rattle.session_log.proofs.Forms.{number_complete, after_key, number_sound}
pub use Rattle.session_log.proofs.Lines.{lines-nil, lines_line, split_at_space}
pub use Rattle.session_log.specs.Lines.{lines, bytes_of, is_numeral}
unfoldable pub use Rattle.session_log.specs.Lines.{number_of}
pub use Rattle.session_log.specs.Text.{ClientSession, Transaction, IsLegal, session_lines}
pub use Rattle.std.proofs.Common.{◌≡◌, ℕ, ◌+◌, ◌≤◌, ◌^◌, Bool, true, false, cond, List, [], ◌∷◌, ◌++◌, length, Option, Some, None, refl, sym, ap, ◌∙◌, nat_lt, ◌&&◌, zero, suc, ◌<◌, map, subst, inl, inr, arith, ◌==◌, eq-eqb, length-append}
pub use Rattle.std.proofs.Common.{◌*◌, not, append_assoc, position, take, drop, option_and_then}
pub use Rattle.std.proofs.lemmas.Bool.{ltb-false, cases_Bool, and_from, cond-true, and_parts, not-true, not_from_false, ne_eqb, lt-ltb, eqb-true, false≢true, cond-false, le-ltb}
pub use Rattle.std.proofs.lemmas.List.{length-map, take_at, append-nil}
pub use Rattle.std.proofs.lemmas.List.Elements.{All-nil, All-cons, recursion_from_All, All-push}
pub use Rattle.std.proofs.lemmas.Option.{cond_some, option_and_then_some, same_Some}
pub use Rattle.std.specs.Fmt.{decimal}
pub use Rattle.std.specs.List.{flat_map, find, filter, enumerate_from, range_with_len, AllByRecursion, list_all, position_or_len, filter_map, cons_option, All}
pub use Rattle.std.specs.Option.{option_or, is_some, option_map_or, option_map}
