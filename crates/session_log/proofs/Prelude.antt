-- What the proofs of this crate name of other modules.
pub use Rattle.session_log.specs.Blocks.{ends_block, blocks, text_of, located, session_limit_fault, fault_of_size, onto_block, block_text, block_fault, first_of}
unfoldable pub use Rattle.session_log.specs.Blocks.{blocks_of}
pub use Rattle.session_log.specs.Faults.{Inside, after, first_fault, fault_at_end, is_session_line, NoSessionLine, IsFault, IsBlock, Place, Start, Between, Over, after_form, form_at, FailsAs, going_on}
unfoldable pub use Rattle.session_log.specs.Faults.{step, grammar_fault}
pub use Rattle.session_log.specs.Key.{is_key, IsKey}
unfoldable pub use Rattle.session_log.specs.Key.{is_key_byte}
pub use Rattle.session_log.specs.Lines.{bytes_of, is_numeral, onto_line}
unfoldable pub use Rattle.session_log.specs.Lines.{lines, number_of, session_of, keyed_of, form_of}
pub use Rattle.session_log.specs.Moments.{is_earlier, IsMoment}
pub use Rattle.session_log.specs.Reading.{place_at, open_lines, IsLegalOpen, AreEnded, Adds, place_of, lines_of, IsLegalReading, IsBodyLine, Takes}
pub use Rattle.session_log.specs.Text.{Transaction, op_line, end_line, txn_lines, view_txn, IsLegalLine, IsLegalMoment, IsLegalOp, IsLegalTxn, MayEndAt, IsKnown, IsKnownBeforeLast, HasNoMoments, text_of_lines, IsHeldBy, ClientSession, view}
pub use Rattle.session_log.specs.Text.{is_unknown, has_unknown, has_moment, least_version, session_lines, IsLegal, capped}
unfoldable pub use Rattle.session_log.specs.Text.{line_text, session_text, log_text}
pub use Rattle.session_log.specs.Version.{has_moments, header_text, first_line, has_unknown_line, version_number}
unfoldable pub use Rattle.session_log.specs.Version.{version_of, body_of}
pub use Rattle.session_log.specs.declared.block.Block.{Block}
pub use Rattle.session_log.specs.declared.fault.LogFault.{LogFault}
pub use Rattle.session_log.specs.declared.line.Line.{Line}
pub use Rattle.session_log.specs.declared.parse.LineState.{LineState}
pub use Rattle.session_log.specs.declared.parse.OpenTxn.{OpenTxn}
pub use Rattle.session_log.specs.declared.parse.Reading.{Reading}
pub use Rattle.session_log.specs.declared.session.Op.{Op}
pub use Rattle.session_log.specs.declared.session.Op.TheVariants.{Read, Write}
pub use Rattle.session_log.specs.declared.session.Outcome.{Outcome}
pub use Rattle.session_log.specs.declared.session.Outcome.TheVariants.{Commit, Abort, Unknown}
pub use Rattle.session_log.specs.declared.version.Version.{Version}
pub use Rattle.session_log.specs.declared.version.Version.TheVariants.{One, Two, Three}
pub use Rattle.std.proofs.Common.{◌≡◌, ℕ, zero, suc, ◌<◌, false, List, [], ◌∷◌, ◌++◌, map, Option, None, Some, Ok, refl, sym, ap, ◌∙◌, subst, arith, append_assoc, Vec, Global, ◌⊎◌, inl, inr, length, ◌≢◌, ◌+◌, ◌≤◌, Bool, true, cond, nat_eq}
pub use Rattle.std.proofs.Common.{codes, length-append, if◌then◌else◌, ◌-◌, ◌*◌, ◌^◌, get_or, take, nat_lt, rules, not, eqb, drop, nat_le, ◌==◌, ◌&&◌, ◌||◌, position, option_and_then, slice_index, slice_range, Result, Err}
pub use Rattle.std.proofs.lemmas.Bool.{false≢true, eqb-true, eqb-false, le-ltb, lt-ltb, ltb-true, leb-true, le-leb, eq-eqb, and_parts, and_from, or_cases, or_left, or_right, not-true, not_from_false, ne_eqb, cond-true, cases_Bool, or_parts}
pub use Rattle.std.proofs.lemmas.Bool.{ltb-false}
pub use Rattle.std.proofs.lemmas.Bool.Decides.{Decides-eqb}
pub use Rattle.std.proofs.lemmas.Fmt.{decimal-digits_value, digits_decimal, digits_value-decimal, decimal_nonempty, first_decimal, decimal_digit}
pub use Rattle.std.proofs.lemmas.List.{append-nil, map-append, take_at, drop_at, length-take, take_rest}
pub use Rattle.std.proofs.lemmas.List.Concat.{flat_map-append}
pub use Rattle.std.proofs.lemmas.List.Elements.{All-from_recursion}
pub use Rattle.std.proofs.lemmas.Slice.Eq.{bytes_eq-Decides, starts_is}
pub use Rattle.std.specs.Char.{is_ascii_digit}
pub use Rattle.std.specs.Fmt.{decimal}
pub use Rattle.std.specs.Int.{from_bool, IsInRange}
pub use Rattle.std.specs.List.{flat_map, AllByRecursion, list_all, position_or_len, starts_with, list_any, Contains}
pub use Rattle.std.specs.Option.{option_eq, option_or, option_map_or}
pub use Rattle.std.specs.Prelude.{count_by, is_some, IfOk, IfErr}
pub use Rattle.std.specs.Str.Parse.{digits_value}
