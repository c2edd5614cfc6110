-- What the proofs of this crate name of other modules.
pub use Rattle.proof_text.specs.Binary.{action_of_word, binary_numbers, is_zero, binary_action}
unfoldable pub use Rattle.proof_text.specs.Binary.{binary_words, sevens, signed, binary_number, binary_lines, up_to_zero, behind_line, clause_with, binary_step}
unfoldable pub use Rattle.proof_text.specs.Forms.{behind_zero}
pub use Rattle.proof_text.specs.Numbers.{first_number, with_front, whole, if_whole, literal_of, id_of, number_of, numbers_of}
unfoldable pub use Rattle.proof_text.specs.Numbers.{before_zero}
pub use Rattle.proof_text.specs.Steps.{DratStep, drat_with, steps_by, lrat_deletion, lrat_addition, drat_clause, lrat_with, drat_step}
unfoldable pub use Rattle.proof_text.specs.Steps.{deletion_of, addition_with, addition_of, clause_of}
pub use Rattle.proof_text.specs.Words.{is_blank, onto_first, begins_word, is_passed}
unfoldable pub use Rattle.proof_text.specs.Words.{words, lines, stated}
pub use Rattle.proof_text.specs.declared.drat.DratAction.{DratAction}
pub use Rattle.proof_text.specs.declared.number.Number.{Number}
pub use Rattle.serializability.specs.declared.literal.Literal.{Literal}
pub use Rattle.session_log.proofs.Lines.{take_step, drop_step, position_some, position_none, is_lf}
pub use Rattle.std.proofs.Common.{◌≡◌, ℕ, ◌+◌, ◌<◌, ◌≤◌, Bool, true, false, not, List, [], ◌∷◌, length, take, drop, position, Some, None, refl, sym, ap, ◌∙◌, arith, length-drop, ◌==◌, ◌-◌, ◌*◌, ◌^◌, get_or, zero, suc, nat_lt, Option}
pub use Rattle.std.proofs.Common.{option_map, option_and_then, ◌++◌, map, append_assoc, rules}
pub use Rattle.std.proofs.lemmas.Bool.{not-false, ne_eqb, eqb-false}
pub use Rattle.std.proofs.lemmas.List.{append-nil, take_rest}
pub use Rattle.std.specs.Bool.{OnTrue, then_some}
pub use Rattle.std.specs.List.{position_or_len, list_all, enumerate_from}
pub use Rattle.std.specs.Str.Parse.{digits_value}
