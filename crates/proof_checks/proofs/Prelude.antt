-- What the proofs of this crate name of other modules.
pub use Rattle.proof_checks.specs.Checked.{Given, IsFaultOf, HasFaultWithin, given_to}
pub use Rattle.proof_checks.specs.Distinct.{is_same, is_among, negated, code_of, with_literal, is_tautology}
unfoldable pub use Rattle.proof_checks.specs.Distinct.{distinct}
pub use Rattle.proof_checks.specs.Ends.{is_empty_clause, end_fault, is_nil, IsFault}
pub use Rattle.proof_checks.specs.Held.{Holds, IsRoot}
pub use Rattle.proof_checks.specs.Kept.{AreNumbers, IsAdded, proof_of, IsKept}
pub use Rattle.proof_checks.specs.Lrat.{Proof, given_of, is_next, without, follows_by, action_fault, fault_by, after_action, adds_empty}
unfoldable pub use Rattle.proof_checks.specs.Lrat.{number_at, standing_at, named_at, numbers_at, addition_fault, step_fault, after_step, lrat_fault}
pub use Rattle.proof_checks.specs.Marks.{AreMarks, IsMarking, HasRounds}
pub use Rattle.proof_checks.specs.Passed.{IsFound, IsTaken, IsAddition, GoesOn, IsPassed, IsStepStop, IsNext}
pub use Rattle.proof_checks.specs.Propagation.{IsMadeFalse, assumed, forced, IsImplied}
pub use Rattle.proof_checks.specs.Reached.{EndsAt, IsLast, IsOpen, IsDone, IsLeft, AreFalse, Keeps, Passes, Visits, Covers, PassesOr}
pub use Rattle.proof_checks.specs.declared.plain.Left.{Left}
pub use Rattle.proof_text.specs.Binary.{drat_steps_in}
pub use Rattle.proof_text.specs.Faults.{fault_of_step}
pub use Rattle.proof_text.specs.Reads.{IsRead}
pub use Rattle.proof_text.specs.Steps.{DratStep, LratStep, lrat_steps}
pub use Rattle.proof_text.specs.declared.drat.DratAction.{DratAction}
pub use Rattle.proof_text.specs.declared.fault.ProofFault.{ProofFault}
pub use Rattle.proof_text.specs.declared.fault.ProofFault.TheVariants.{NoEmptyClause, BadLine, NotImplied, TooLong, Memory}
pub use Rattle.proof_text.specs.declared.fault.StepFault.{StepFault}
pub use Rattle.proof_text.specs.declared.lrat.LratAction.{LratAction}
pub use Rattle.refutation.proofs.Units.{satisfied_at, refuted_before, entails_then, entails_same}
pub use Rattle.refutation.specs.Follows.{SatisfiesAll, Follows, Entails}
pub use Rattle.refutation.specs.Known.{value_is, known_false, left_of, with_true, with_false, all_open}
pub use Rattle.refutation.specs.Numbered.{clause_at}
pub use Rattle.refutation.specs.Standing.{Standing}
pub use Rattle.serializability.specs.declared.literal.Literal.{Literal}
pub use Rattle.std.proofs.Common.{◌≡◌, ℕ, ◌≤◌, Bool, false, if◌then◌else◌, List, Option, Some, None, length, subst, zero, suc, ◌+◌, ◌<◌, take, take_all, get_or, add-one, true, not, ◌||◌, [], ◌∷◌, ◌++◌, Result, Ok, Err, IfOk, slice_get, refl}
pub use Rattle.std.proofs.Common.{sym, ap, ◌∙◌, ◌⊎◌, inl, inr, ◌*◌, eqb, ◌==◌, filter, append-nil, arith, ◌↔◌, IsTrue, Contains, IfErr, ◌-◌, ◌&&◌, is_some, cond, nat_lt, nat_le, MatchResult, position, append_assoc, drop, slice_set, unwrap_or}
pub use Rattle.std.proofs.Common.{length-append, replicate, slice_index, get_or-set_other, get_or-set_same, rules}
pub use Rattle.std.proofs.Math.Bool.{or-true, or-false}
pub use Rattle.std.proofs.Math.Seq.{take-suc}
pub use Rattle.std.proofs.lemmas.Bool.{or_cases, or_left, or_right, eqb-true, ne_eqb, eq-eqb, lt-ltb, le-ltb, le-leb, ltb-true, leb-true, cases_lt, cases_eq, eqb-false, not-true, not-false}
pub use Rattle.std.proofs.lemmas.List.Elements.{filter-append, Contains-append_right, Contains-append_left, Contains-append_cases}
pub use Rattle.std.proofs.lemmas.List.Folds.{list_any_more, list_any_at, list_any-append}
pub use Rattle.std.proofs.lemmas.Result.{err_from_is_err_and}
pub use Rattle.std.specs.List.{list_any, position_or_len}
pub use Rattle.std.specs.Option.{option_map, option_and_then, option_or}
