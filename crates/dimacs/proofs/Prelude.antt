-- What the proofs of this crate name of other modules.
pub use Rattle.dimacs.specs.Answer.{claim_of, status, is_given, mentions, number_of, is_closed, line_fault, first_fault, assignment, assignment_of, status_of, end_fault, StandsFor, IsAnswer, IsFault}
unfoldable pub use Rattle.dimacs.specs.Answer.{item_fault, items_of, answer_fault}
pub use Rattle.dimacs.specs.Reading.{signs, marks, Knows, Takes}
pub use Rattle.dimacs.specs.Sending.{IsUnderWay, IsCutOff}
pub use Rattle.dimacs.specs.Text.{literal_text, clause_text, header}
unfoldable pub use Rattle.dimacs.specs.Text.{text_of}
pub use Rattle.dimacs.specs.Words.{is_blank, Item, Claim, Given, Zero, Broken, is_number, signed_item}
unfoldable pub use Rattle.dimacs.specs.Words.{lines_of, words, line_items, number_item, status_named}
pub use Rattle.dimacs.specs.declared.answer.AnswerFault.{AnswerFault}
pub use Rattle.dimacs.specs.declared.answer.AnswerFault.TheVariants.{BadLine, TwoStatus, OutOfRange, BothSigns, Unclosed, Memory, TooLong}
pub use Rattle.dimacs.specs.declared.reading.Reading.{Reading}
pub use Rattle.order_cnf.specs.Clauses.{IsWithin}
pub use Rattle.order_cnf.specs.Data.{cnf_of}
pub use Rattle.serializability.specs.Formula.{Cnf, IsInRange}
pub use Rattle.serializability.specs.declared.literal.Literal.{Literal}
pub use Rattle.std.proofs.Common.{◌≡◌, ℕ, ◌+◌, ◌<◌, ◌≤◌, Bool, true, false, cond, List, [], ◌∷◌, ◌++◌, length, take, drop, nat_lt, Some, None, position, refl, ap, ◌∙◌, subst, arith, if◌then◌else◌, zero, suc, ◌-◌, ◌^◌, not, get_or, Option, Ok}
pub use Rattle.std.proofs.Common.{Err, sym, append-nil, set, length-set, ⊎_elim, replicate, slice_set, length-append, length-drop, take-add, drop-drop, take_all, append_assoc, Result, ◌/◌, ◌%◌, rules, ◌*◌}
pub use Rattle.std.proofs.Math.Bool.{and-false}
pub use Rattle.std.proofs.lemmas.Bool.{ne_eqb, ltb-true, ltb-false, eq-eqb, lt-ltb, le-ltb, cases_eq, and_from, or_from, cond_both, eqb-true}
pub use Rattle.std.proofs.lemmas.Fmt.{length-decimal-le, decimal_nonempty, first_decimal, digits_decimal, digits_value-decimal, decimal_injective}
pub use Rattle.std.proofs.lemmas.List.{get_or_at, length_push, get_or-set_same, get_or-set_other, same_lists, take-set-le, drop_at, take-append-le, append_cancel_right, append_cancel_left, length-take-le, nil_from_length, take_rest}
pub use Rattle.std.proofs.lemmas.List.Elements.{filter_map-append, All-nil, All-cons, All-append}
pub use Rattle.std.proofs.lemmas.List.FromFn.{length-map-range_with_len, get_or-map-range_with_len}
pub use Rattle.std.proofs.lemmas.List.Splits.{slice_split_first, slice_split_none, length-slice_split, slice_split_at}
pub use Rattle.std.proofs.lemmas.List.Sums.{fails_before_first, count_by-le-length}
pub use Rattle.std.proofs.lemmas.Result.{err_from_is_err_and}
pub use Rattle.std.specs.Fmt.{digits_onto, digit_glyph}
unfoldable pub use Rattle.std.specs.Fmt.{digits}
pub use Rattle.std.specs.List.{slice_split, position_or_len, range_with_len, cons_option, All, AllByRecursion, flat_map}
pub use Rattle.std.specs.Option.{option_or}
pub use Rattle.std.specs.Prelude.{◌==◌, filter, codes, map, filter_map, slice_get, is_some, ◌||◌, decimal, nat_eq, MatchResult, IfOk, IfErr, OnOk}
pub use Rattle.std.specs.Str.{bytes_eq}
pub use Rattle.std.specs.Str.Lines.{lines_of_parts, strip_carriage_return}
pub use Rattle.std.specs.Str.Parse.{digits_value}
